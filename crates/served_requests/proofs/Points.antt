-- Many points by the calls for C (specs/Points.antt says it): `every_point` of points_tree/proofs/EveryPoint.antt, on the words of the calls. Assumes nothing.
use Prim.Native.Nat.{ℕ, ◌≤◌}
use mathlib.Core.Bool.{Bool, false, cond}
use mathlib.Core.List.{List}
use mathlib.Core.Path.{◌≡◌, sym, ap, ◌∙◌}
use borrow.Author.Tests.{le-ltb}
use lib.Dec.{ltb}
use lib.Ieee.{Float}
use lib.ListN.{length}
use Rattle.format.specs.Answer.{Answer, refused, then_answer}
use Rattle.format.specs.Listed.{Listed, listed}
use Rattle.format.specs.declared.contents.BspLeafContents.{BspLeafContents}
use Rattle.walk.specs.Table.{Table}
use Rattle.walk.specs.TreeCheck.{tree_check}
use Rattle.nodes.specs.Tables.{End, nodes_of}
use Rattle.hull.specs.Hull.{hull_table}
use Rattle.hull.specs.declared.collision.BspCollisionHull.{BspCollisionHull}
use Rattle.points.specs.Points.{points_of, not_points, codes_and_reads, filled, answered, contents_of_points}
use Rattle.points_tree.proofs.EveryPoint as Core
use Rattle.words.specs.Words.{Left, left, enough, listed_in, map_of}
use Rattle.ffi_hull.specs.Layout.{hull_in, hull_from}
use Rattle.ffi_points.specs.Calls.{bsp_contents_points}
use Rattle.served.specs.EveryCall.{map_written}
use Rattle.served.proofs.EveryCall.{load_passed, check_passed}
use Rattle.served.proofs.Statuses.{long_both, from_words}
use Rattle.served_requests.specs.Points.{nodes_read, EveryPoint}

-- where the coordinates are points and the list has an entry for each, what is answered is what is left
module _ (T : Table End BspLeafContents) (root : ℕ) (points : List Float) (list : List ℕ) where
  open_call : not_points points ≡ false → length (points_of points) ≤ length list → contents_of_points T root points list ≡ answered T root points list
  unfolding contents_of_points
  open_call are room =
      ap (λ (b : Bool). cond b (listed (refused 24) list) (cond (ltb (length list) (length (points_of points))) (listed (refused 22) list) (answered T root points list))) are
      ∙ ap (λ (b : Bool). cond b (listed (refused 22) list) (answered T root points list)) (le-ltb (length list) (length (points_of points)) room)

pub every_point : EveryPoint
unfolding bsp_contents_points
every_point s lent e table root marks height c hull asked is_table is_root points are list room out k =
    let map = map_written s lent in
    let L = load_passed s lent e in
    let C = check_passed s map table root marks height c in
    let b : BspCollisionHull = hull_in C.t hull in
    let ask : BspCollisionHull → Answer (List ℕ × ℕ) = λ h. codes_and_reads (hull_table s (map_of map) h) h.node_id (points_of points) in
    let rest : Left = enough 31 map list out (enough 9 hull list out (enough 1 out list out (enough (length (points_of points)) list list out
    (listed_in (filled (then_answer (hull_from hull) ask) list) out)))) in
    let from = from_words C.t hull (is_table ∙ C.is_table) in
    let T : Table End BspLeafContents = hull_table s (map_of map) b in
    let M = Core.every_point s (map_of map) L.loads b C.marks _ (ap (λ (r : ℕ). (tree_check (nodes_of s (map_of map) C.t) C.marks r).answer) is_root ∙ C.passed) points list are room in
    let is : bsp_contents_points s map hull points list out ≡ listed_in (contents_of_points T b.node_id points list) out =
    ap (λ (x : Bool). cond x (left 24 list out) rest) are
    ∙ long_both 31 map list out _ L.room ∙ long_both 9 hull list out _ asked ∙ long_both 1 out list out _ k ∙ long_both (length (points_of points)) list list out _ room
    ∙ ap (λ x. listed_in (filled (then_answer x ask) list) out) from
    ∙ ap (λ (l : Listed). listed_in l out) (sym (open_call T b.node_id points list are room)) in
    let end = is ∙ ap (λ (l : Listed). listed_in l out) M.call in
    record {
      h = b;
      is_hull = from;
      contents = M.contents;
      alone = M.alone;
      answers = ap (λ (l : Left). l.status) end;
      codes = ap (λ (l : Left). l.list) end;
      reads = ap (λ (l : Left). nodes_read l.out) end;
    }
