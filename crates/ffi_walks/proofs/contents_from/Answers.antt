-- `ffi_walks::contents_from` meets its contract. Assumes nothing.
use Prim.Native.Nat.{ℕ}
use mathlib.Core.List.{[], ◌∷◌}
use mathlib.Core.Path.{sym, ap, ap₂, ◌∙◌}
use Rattle.format.specs.Answer.{answer, mapped}
use Rattle.math.specs.Vector.{vector}
use Rattle.words.specs.Words.{told}
use Rattle.ffi_walks.specs.Calls.{contents_words}
use Rattle.ffi_walks.specs.Private.{contents_told}
use Rattle.ffi_walks.specs.Quick.{code_and_visits, contents_at_once}
use Rattle.ffi_walks.proofs.Found.{was_answered}
use Rattle.ffi_walks.proofs.contents_from.Goals as goal

pub returns-in-Some : goal.returns-in-Some
unfolding contents_at_once
returns-in-Some c = let s = c.args in
    let (a, e, z) = was_answered code_and_visits _ _ _ (sym c.in-Some.is ∙ c.quick_contents.ensures) in
    c.put_two.ensures ∙ ap (λ x. told x s.out.now) (ap (λ (q : ℕ × ℕ). answer (q.0 ∷ q.1 ∷ [])) z ∙ ap (mapped contents_words) e)
    ∙ ap₂ (λ m h. contents_told s.file.now m h (vector s.x s.y s.z) s.out.now) c.walked_map-m.ensures c.node_hull-h.ensures
