-- `ffi_walks::contents` meets its contract. Assumes nothing.
use mathlib.Core.Bool.{Bool, true, false}
use mathlib.Core.List.{List}
use mathlib.Core.Path.{◌≡◌, sym, ap, ◌∙◌}
use lib.Ieee.{Float}
use Prim.Native.Nat.{ℕ}
use Rattle.std.proofs.Common.{Result, Ok, take, length-take-le}
use Rattle.format.specs.Answer.{mapped}
use Rattle.format.specs.Answers.{answer_of}
use Rattle.format.specs.declared.contents.BspLeafContents.{BspLeafContents}
use Rattle.format.specs.declared.refusal.Refusal.{Refusal}
use Rattle.format.specs.declared.section.BspData.{BspData}
use Rattle.math.specs.declared.vector.Vector3.{Vector3}
use Rattle.nodes.specs.Tables.{End, file_table}
use Rattle.walk.specs.Table.{Table}
use Rattle.hull.specs.declared.collision.BspCollisionHull.{BspCollisionHull}
use Rattle.words.specs.Words.{Written, given, told}
use Rattle.words.proofs.Giving.{told_given}
use Rattle.walk.specs.Walk.{with_visits, point_walk}
use Rattle.ffi_hull.specs.Layout.{asked, node_hull, point_at, walked_map}
use Rattle.ffi_hull.proofs.Walked.{first_words, its_map, of_nodes, room, the_hull, whole_map}
use Rattle.ffi_walks.specs.Calls.{contents_words, bsp_contents}
use Rattle.ffi_walks.specs.Private.{contents_told}
use Rattle.ffi_walks.specs.Quick.{contents_asked}
use Rattle.ffi_walks.proofs.contents.Goals as goal

pub slice_bounds-its-end : goal.slice_bounds-its-end
slice_bounds-its-end c = sym (length-take-le 31 _ (whole_map _ _ _ _ _ _ _ c.asked.ensures _ _ c.in-Ok.is))

-- by the nodes of the kind b, from the first words of the map record
of_kind : (b : Bool) (s ms ws : List ℕ) (fs : List Float) (out : List ℕ) (r : Result (BspData × BspCollisionHull) Refusal) → answer_of r ≡ asked ms ws fs 3 out 2
    → (m : BspData) (h : BspCollisionHull) → r ≡ Ok (m, h) → h.table ≡ file_table b → (p : Vector3) → p ≡ point_at fs 0 → (w : Written)
    → w ≡ contents_told s (walked_map (take 31 ms)) (node_hull b h.node_id) p out → w ≡ bsp_contents s ms ws fs out
unfolding bsp_contents
of_kind b s ms ws fs out r is-r m h q is_table p is_p w e =
    e ∙ ap (λ x. contents_told s x (node_hull b h.node_id) p out) (first_words ms ∙ sym (its_map ms ws fs 3 out 2 r is-r m h q))
    ∙ ap (λ (T : Table End BspLeafContents). told (mapped contents_words (with_visits (point_walk T h.node_id p))) out) (of_nodes s m b h is_table)
    ∙ told_given contents_words (contents_asked s m h p) out (λ x. room ms ws fs 3 out 2 r is-r m h q)
    ∙ ap (λ (x : Vector3). given (mapped contents_words (contents_asked s m h x)) out) is_p
    ∙ the_hull (λ a. given (mapped contents_words a) out) s ms ws fs 3 out 2 (λ T root. with_visits (point_walk T root (point_at fs 0))) r is-r m h q

pub returns-in-Render : goal.returns-in-Render
returns-in-Render c = let s = c.args in
    of_kind true s.file.now s.map.now s.hull.now s.point.now s.out.now _ c.asked.ensures _ _ c.in-Ok.is c.in-Render.is _ c.first_point-p.ensures _ c.contents_drawn.ensures

pub returns-in-Clip : goal.returns-in-Clip
returns-in-Clip c = let s = c.args in
    of_kind false s.file.now s.map.now s.hull.now s.point.now s.out.now _ c.asked.ensures _ _ c.in-Ok.is c.in-Clip.is _ c.first_point-p.ensures _ c.contents_clipped.ensures

pub contents_drawn-requires : goal.contents_drawn-requires
contents_drawn-requires c = room _ _ _ _ _ _ _ c.asked.ensures _ _ c.in-Ok.is

pub contents_clipped-requires : goal.contents_clipped-requires
contents_clipped-requires c = room _ _ _ _ _ _ _ c.asked.ensures _ _ c.in-Ok.is
