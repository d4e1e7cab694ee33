-- `ffi_line::line_in` meets its contract. Assumes nothing.
use Prim.Native.Nat.{ℕ}
use mathlib.Core.List.{List}
use mathlib.Core.Path.{◌≡◌, refl, ap, ◌∙◌}
use Rattle.std.specs.Prelude.{Result}
use Rattle.format.specs.Answer.{mapped}
use Rattle.format.specs.Answers.{answer_of}
use Rattle.format.specs.declared.refusal.Refusal.{Refusal}
use Rattle.format.specs.declared.section.BspData.{BspData}
use Rattle.math.specs.declared.vector.Vector3.{Vector3}
use Rattle.hull.specs.Hull.{hull_table}
use Rattle.hull.specs.declared.collision.BspCollisionHull.{BspCollisionHull}
use Rattle.words.specs.Words.{Written, told}
use Rattle.line.specs.Line.{whole_line}
use Rattle.line.specs.declared.state.LineTrace.{LineTrace}
use Rattle.ffi_line.specs.Calls.{line_words}
use Rattle.ffi_line.specs.Private.{line_told}
use Rattle.ffi_line.proofs.line_in.Goals as goal

traced : (s : List ℕ) (k : BspData) (h : BspCollisionHull) (p q : Vector3) (out : List ℕ) {m : BspData} → m ≡ k → (r : Result LineTrace Refusal) → answer_of r ≡ whole_line (hull_table s m h) h.node_id p q
    → {w : Written} → w ≡ told (mapped line_words (answer_of r)) out → w ≡ line_told s k h p q out
traced s k h p q out is_m r is-r e = e ∙ ap (λ a. told (mapped line_words a) out) (is-r ∙ ap (λ (x : BspData). whole_line (hull_table s x h) h.node_id p q) is_m)

pub returns-in-Err : goal.returns-in-Err
returns-in-Err c = let s = c.args in
    traced s.file.now _ s.hull s.start s.end s.out.now c.walked_map.ensures _ c.trace_line.ensures (rw (c.in-Err.is, c.number.ensures) refl)

pub returns-in-Ok : goal.returns-in-Ok
returns-in-Ok c = let s = c.args in
    traced s.file.now _ s.hull s.start s.end s.out.now c.walked_map.ensures _ c.trace_line.ensures (rw c.in-Ok.is c.give_line.ensures)
