-- Many points from a root that passed the tree check: demand 3 answers each of them, and the reads are the different nodes met
-- (`reads_are_nodes` of ways/proofs/NodesMet.antt, over any table whose planes and leaves can be read). Assumes nothing.
use Prim.Native.Nat.{ℕ, ◌≤◌}
use mathlib.Core.Bool.{Bool, false, cond}
use mathlib.Core.List.{List, [], ◌∷◌, ◌++◌, map}
use mathlib.Core.Path.{◌≡◌, refl, sym, ◌∙◌, ap, subst}
use borrow.Author.Tests.{le-ltb}
use lib.Dec.{ltb}
use lib.Ieee.{Float}
use lib.ListN.{length, drop}
use Rattle.format.specs.Answer.{Answer, answer, refused, mapped}
use Rattle.format.specs.Contents.{code_of}
use Rattle.format.specs.Listed.{listed}
use Rattle.format.specs.declared.contents.BspLeafContents.{BspLeafContents}
use Rattle.format.specs.declared.section.BspData.{BspData}
use Rattle.math.specs.declared.vector.Vector3.{Vector3}
use Rattle.walk.specs.Table.{Nodes, Table}
use Rattle.walk.specs.Walk.{point_walk}
use Rattle.walk.specs.TreeCheck.{tree_check}
use Rattle.nodes.specs.Tables.{End, nodes_of}
use Rattle.hull.specs.Hull.{hull_table}
use Rattle.hull.specs.declared.collision.BspCollisionHull.{BspCollisionHull}
use Rattle.tree.proofs.Readable as Tree
use Rattle.tree.proofs.Laws.{nodes_of_lem}
use Rattle.load.specs.Load.{load_of}
use Rattle.load.proofs.Loads as Loads
use Rattle.loaded.specs.EveryFile.{Calls}
use Rattle.loaded.proofs.EveryFile.{every_hull}
use Rattle.ways.specs.Ways.{answer_of, all, reads, nodes_met}
use Rattle.ways.proofs.NodesMet.{reads_are_nodes}
use Rattle.points.specs.Points.{points_of, not_points, filled, answered, contents_of_points}
use Rattle.points_tree.specs.EveryPoint.{Met, EveryPoint}

all_answers : {A : Type 0} (l : List A) → all (map answer l) ≡ answer l
all_answers [] = refl
all_answers (a ∷ l) = ap (mapped (λ bs. a ∷ bs)) (all_answers l)

map_of : {X Y Z : Type 0} (f : X → Z) (g : Y → Z) (v : X → Y) → ((x : X) → f x ≡ g (v x)) → (l : List X) → map f l ≡ map g (map v l)
map_of f g v e [] = refl
map_of f g v e (x ∷ l) = ap (λ (y : _). y ∷ map f l) (e x) ∙ ap (λ (k : List _). g (v x) ∷ k) (map_of f g v e l)

module _ (s : List ℕ) (m : BspData) (loads : load_of s ≡ answer m) (hull : BspCollisionHull) (marks : List ℕ) (h : ℕ) (passed : (tree_check (nodes_of s m hull.table) marks hull.node_id).answer ≡ answer h) where
  abbrev T : Table End BspLeafContents
  T = hull_table s m hull

  abbrev root : ℕ
  root = hull.node_id

  calls : Calls s m hull h
  calls = every_hull s m loads hull marks h passed

  abbrev value : Vector3 → BspLeafContents
  value p = (calls.contents p).all.value

  each : (p : Vector3) → answer_of (point_walk T root p) ≡ answer (value p)
  each p = ap answer_of (calls.contents p).all.answered

  nodes_read_lem : (ps : List Vector3) → reads T root ps ≡ nodes_met T root ps
  nodes_read_lem ps =
      reads_are_nodes T (Tree.reads s m (record { planes = Loads.planes s m loads; leaves = Loads.leaves s m loads }) hull.table hull.mins hull.maxs) marks root h
      (subst (λ (N : Nodes End). (tree_check N marks root).answer ≡ answer h) (sym (nodes_of_lem s m hull.table hull.mins hull.maxs)) passed) ps

  module _ (cs : List Float) (lent : List ℕ) (are : not_points cs ≡ false) (room : length (points_of cs) ≤ length lent) where
    abbrev found : List BspLeafContents
    found = map value (points_of cs)

    alone : map (λ p. answer_of (point_walk T root p)) (points_of cs) ≡ map answer found
    alone = map_of (λ p. answer_of (point_walk T root p)) answer value each (points_of cs)

    opened : contents_of_points T root cs lent ≡ answered T root cs lent
    unfolding contents_of_points
    opened =
        ap (λ (b : Bool). cond b (listed (refused 24) lent) (cond (ltb (length lent) (length (points_of cs))) (listed (refused 22) lent) (answered T root cs lent))) are
        ∙ ap (λ (b : Bool). cond b (listed (refused 22) lent) (answered T root cs lent)) (le-ltb (length lent) (length (points_of cs)) room)

    pub met : Met s m hull cs lent
    met =
        record {
          contents = found;
          alone = alone;
          call =
              opened
              ∙ ap (λ (a : Answer (List BspLeafContents)). filled (mapped (λ ks. (map code_of ks, reads T root (points_of cs))) a) lent) (ap all alone ∙ all_answers found)
              ∙ ap (λ (n : ℕ). listed (answer n) (map code_of found ++ drop (length (map code_of found)) lent)) (nodes_read_lem (points_of cs));
        }

pub every_point : EveryPoint
every_point s m loads hull marks h passed cs lent are room = met s m loads hull marks h passed cs lent are room
