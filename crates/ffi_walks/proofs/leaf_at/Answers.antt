-- `ffi_walks::leaf_at` meets its contract. Assumes nothing.
use mathlib.Core.Path.{sym, ap, ◌∙◌}
use Rattle.format.specs.Answer.{answer, mapped}
use Rattle.math.specs.Vector.{vector}
use Rattle.words.specs.Words.{give, told}
use Rattle.ffi_walks.specs.Calls.{leaf_words}
use Rattle.ffi_walks.specs.Private.{leaf_at_once, leaf_told}
use Rattle.ffi_walks.proofs.Found.{was_answered}
use Rattle.ffi_walks.proofs.leaf_at.Goals as goal

pub returns-in-Some : goal.returns-in-Some
unfolding leaf_at_once
returns-in-Some c = let s = c.args in
    let (a, e, z) = was_answered (λ a. a) _ _ _ (sym c.in-Some.is ∙ c.quick_leaf.ensures) in
    c.put_two.ensures ∙ ap (λ l. give l s.out.now) c.leaf_words.ensures
    ∙ ap (λ x. told x s.out.now) (ap (λ q. answer (leaf_words q)) z ∙ ap (mapped leaf_words) e)
    ∙ ap (λ m. leaf_told s.file.now m s.root (vector s.x s.y s.z) s.out.now) c.walked_map-m.ensures
