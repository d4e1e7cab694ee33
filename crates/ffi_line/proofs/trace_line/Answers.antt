-- `ffi_line::trace_line` meets its contract. Assumes nothing.
use mathlib.Core.Bool.{Bool, true, false}
use mathlib.Core.List.{List}
use mathlib.Core.Path.{◌≡◌, sym, ap, ap₂, ◌∙◌}
use lib.Ieee.{Float}
use Prim.Native.Nat.{ℕ}
use Rattle.std.proofs.Common.{Result, Ok, take, length-take-le}
use Rattle.format.specs.Answer.{mapped}
use Rattle.format.specs.Answers.{answer_of}
use Rattle.format.specs.declared.contents.BspLeafContents.{BspLeafContents}
use Rattle.format.specs.declared.refusal.Refusal.{Refusal}
use Rattle.format.specs.declared.section.BspData.{BspData}
use Rattle.math.specs.declared.vector.Vector3.{Vector3}
use Rattle.nodes.specs.Tables.{End, file_table}
use Rattle.walk.specs.Table.{Table}
use Rattle.hull.specs.Hull.{hull_table}
use Rattle.hull.specs.declared.collision.BspCollisionHull.{BspCollisionHull}
use Rattle.words.specs.Words.{Written, given, told}
use Rattle.words.proofs.Giving.{told_given}
use Rattle.line.specs.Line.{whole_line}
use Rattle.ffi_hull.specs.Layout.{asked, node_hull, point_at, walked_map}
use Rattle.ffi_hull.proofs.Walked.{first_words, its_map, of_nodes, room, the_hull, whole_map}
use Rattle.ffi_line.specs.Calls.{line_words, bsp_trace_line}
use Rattle.ffi_line.specs.Private.{line_told}
use Rattle.ffi_line.proofs.trace_line.Goals as goal

pub slice_bounds-its-end : goal.slice_bounds-its-end
slice_bounds-its-end c = sym (length-take-le 31 _ (whole_map _ _ _ _ _ _ _ c.asked.ensures _ _ c.in-Ok.is))

-- by the nodes of the kind b, from the first words of the map record
of_kind : (b : Bool) (s ms ws : List ℕ) (fs : List Float) (out : List ℕ) (r : Result (BspData × BspCollisionHull) Refusal) → answer_of r ≡ asked ms ws fs 6 out 12
    → (m : BspData) (h : BspCollisionHull) → r ≡ Ok (m, h) → h.table ≡ file_table b → (p : Vector3) → p ≡ point_at fs 0 → (q : Vector3) → q ≡ point_at fs 3 → (w : Written)
    → w ≡ line_told s (walked_map (take 31 ms)) (node_hull b h.node_id) p q out → w ≡ bsp_trace_line s ms ws fs out
unfolding bsp_trace_line
of_kind b s ms ws fs out r is-r m h is-h is_table p is_p q is_q w e =
    e ∙ ap (λ x. line_told s x (node_hull b h.node_id) p q out) (first_words ms ∙ sym (its_map ms ws fs 6 out 12 r is-r m h is-h))
    ∙ ap (λ (T : Table End BspLeafContents). told (mapped line_words (whole_line T h.node_id p q)) out) (of_nodes s m b h is_table)
    ∙ told_given line_words (whole_line (hull_table s m h) h.node_id p q) out (λ x. room ms ws fs 6 out 12 r is-r m h is-h)
    ∙ ap (λ a. given (mapped line_words a) out) (ap₂ (whole_line (hull_table s m h) h.node_id) is_p is_q)
    ∙ the_hull (λ a. given (mapped line_words a) out) s ms ws fs 6 out 12 (λ T root. whole_line T root (point_at fs 0) (point_at fs 3)) r is-r m h is-h

pub returns-in-Render : goal.returns-in-Render
returns-in-Render c = let s = c.args in
    of_kind true s.file.now s.map.now s.hull.now s.segment.now s.out.now _ c.asked.ensures _ _ c.in-Ok.is c.in-Render.is _ c.first_point-p.ensures _ c.second_point-q.ensures _ c.line_drawn.ensures

pub returns-in-Clip : goal.returns-in-Clip
returns-in-Clip c = let s = c.args in
    of_kind false s.file.now s.map.now s.hull.now s.segment.now s.out.now _ c.asked.ensures _ _ c.in-Ok.is c.in-Clip.is _ c.first_point-p.ensures _ c.second_point-q.ensures _ c.line_clipped.ensures
