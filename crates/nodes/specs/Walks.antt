-- For the contracts of functions below the calls; a reader of the calls may leave this file out.
-- The walk of a point to an end (`walk_to_end`), and what a trace sees at a node (`ends_in`, `segment_any`): both make something of a node and its
-- plane. Then the bytes of the nodes and the planes, where the file has all of them (`are_whole`, `node_bytes`, `plane_bytes`).
use Rattle.std.specs.Prelude.{Result, Ok, Err, ◌≡◌, ℕ, ◌+◌, ◌*◌, ◌/◌, Bool, true, false, cond, List, [], ◌++◌, length, take, drop, nat_le, nat_lt, Float}
use Rattle.std.specs.Borrow.{Bor}
use Rattle.format.specs.Answer.{Answer, answer, refused, mapped, then_answer}
use Rattle.format.specs.Refusal.{number_of}
use Rattle.format.specs.declared.refusal.Refusal.{Refusal}
use Rattle.math.specs.Plane as Pl
use Rattle.math.specs.declared.vector.Vector3.{Vector3}
use Rattle.math.specs.declared.plane.HyperplaneSide.{HyperplaneSide}
use Rattle.math.specs.declared.plane.HyperplaneSide.TheVariants.{Positive, Negative}
use Rattle.walk.specs.Table.{Child, Node, Table, child_on}
use Rattle.walk.specs.Walk.{Entered, enter}
use Rattle.nodes.specs.Tables.{End, is_box, file_table}
use Rattle.nodes.specs.Fast.{Within, is_render, child_of, end_of, node_of, word_on, node_here, node_size, plane_here, two_dists, table}
use Rattle.nodes.specs.declared.table.HullTable.{HullTable}
use Rattle.nodes.specs.declared.table.Part.{Part}
use Rattle.nodes.specs.declared.table.Tables.{Tables}
use Rattle.nodes.specs.declared.read.Words.{Words}

-- the table whose ends are answered as they are, untested and unread
abbrev pub ends : {E A : Type 0} → Table E A → Table E E
ends T =
    record {
      nodes = record { count = T.nodes.count; planes = T.nodes.planes; node_at = T.nodes.node_at; leaf_in = λ e. true };
      plane_at = T.plane_at;
      leaf_at = λ e. answer e;
    }

-- the end that a word stands for, and visits
abbrev pub walk_end_answer : HullTable → Result (ℕ × ℕ) Refusal → Answer (End × ℕ)
walk_end_answer t (Ok (w, v)) = answer (end_of t w, v)
walk_end_answer t (Err e) = refused (number_of e)

-- ---- what is made of a node and its plane, as they are entered

-- of the node i of a table
abbrev pub made_from : {X : Type 0} → (Entered End → X) → List ℕ → Tables → ℕ → Answer X
made_from make s t i = mapped make (enter (table s t) i)

-- for private contracts: of a node, with so many planes from the place b on
abbrev pub made_with : {X : Type 0} → (Entered End → X) → List ℕ → ℕ → ℕ → Node End → Answer X
made_with make s b count nd =
    cond (nat_lt nd.plane count) (answer (make (record { nd = nd; plane = plane_here s (b + nd.plane * 20) }))) (refused 30)

-- of the node at a place
abbrev pub made_at : {X : Type 0} → (Entered End → X) → Bool → List ℕ → ℕ → ℕ → ℕ → Answer X
made_at make render s at b count = then_answer (node_here render s at) (made_with make s b count)

-- x is made of the node at a place of the bytes n and of the planes m, which are a file's
abbrev pub MadeIn : {X : Type 0} → (Entered End → X) → Bool → List ℕ → List ℕ → ℕ → Answer X → Type 0
MadeIn make render n m at x =
    (s : List ℕ) (a b : ℕ) → Within n s a → Within m s b → x ≡ made_at make render s (a + at) b (length m / 20)

-- for private contracts: a node's words and its plane's bytes
abbrev pub found_answer : HullTable → Result (Words × Bor (List ℕ)) Refusal → Answer (Entered End)
found_answer t (Ok (w, b)) = answer (record { nd = node_of t w; plane = plane_here b.now 0 })
found_answer t (Err e) = refused (number_of e)

-- a walk makes the child on the point's side
abbrev pub child_toward : Vector3 → Entered End → Child End
child_toward p m = child_on m.nd (Pl.point_side m.plane p)

-- a look of a whole-line trace makes the child on the side of the point's distance
abbrev pub child_by_distance : Vector3 → Entered End → Child End
child_by_distance p m = child_on m.nd (Pl.from_dist (Pl.point_dist m.plane p))

abbrev pub onward_answer : HullTable → Result ℕ Refusal → Answer (Child End)
onward_answer t (Ok w) = answer (child_of t w)
onward_answer t (Err e) = refused (number_of e)

-- a trace makes the node and the distances of the segment's ends
abbrev pub node_and_dists : Vector3 → Vector3 → Entered End → Node End × (Float × Float)
node_and_dists p q m = (m.nd, two_dists p q m.plane)

abbrev pub segment_answer : HullTable → Result (Words × Float × Float) Refusal → Answer (Node End × (Float × Float))
segment_answer t (Ok (w, a, b)) = answer (node_of t w, (a, b))
segment_answer t (Err e) = refused (number_of e)

-- for private contracts: the child's word on a side
abbrev pub word_at : Words → HyperplaneSide → ℕ
word_at w Positive = word_on w true
word_at w Negative = word_on w false

-- ---- the nodes and planes of a file that has all of them

-- all records of a part are within the limit and lie in n bytes
unfoldable pub is_whole : Part → ℕ → ℕ → Bool
is_whole p size n = cond (nat_lt p.readable p.count) false (nat_le (p.at + p.count * size) n)

-- all nodes and all planes are; a box has none in the file
unfoldable pub are_whole : Tables → ℕ → Bool
are_whole t n =
    cond (is_box t.table) false
    (cond (is_whole t.nodes (node_size (is_render t.table)) n) (is_whole t.planes 20 n) false)

-- the bytes of a part
abbrev pub all_bytes : List ℕ → Part → ℕ → List ℕ
all_bytes s p size = take (p.count * size) (drop p.at s)

-- where it is asked for and whole, else none
unfoldable pub bytes_of : Bool → List ℕ → Part → ℕ → List ℕ
bytes_of whole s p size = cond whole (cond (is_whole p size (length s)) (all_bytes s p size) []) []

abbrev pub node_bytes : Bool → List ℕ → Tables → List ℕ
node_bytes whole s t = bytes_of whole s t.nodes (node_size (is_render t.table))

abbrev pub plane_bytes : Bool → List ℕ → Tables → List ℕ
plane_bytes whole s t = bytes_of whole s t.planes 20

-- the bytes of the two sections, as a walk or a trace takes them
pub record Read (s : List ℕ) (t : Tables) (nodes planes : List ℕ) (whole : Bool) : Type 0 where
  pub told : whole ≡ are_whole t (length s)
  pub its_nodes : nodes ≡ node_bytes whole s t
  pub its_planes : planes ≡ plane_bytes whole s t

-- ---- what a trace sees at a node, by whatever bytes it is handed

-- of the node i in the bytes n of nodes and m of planes, as in a file that is these bytes, one after the other
abbrev pub made_in : {X : Type 0} → (Entered End → X) → Bool → List ℕ → List ℕ → ℕ → Answer X
made_in make render n m i =
    cond (nat_lt i (length n / node_size render)) (made_at make render (n ++ m) (i * node_size render) (length n) (length m / 20)) (refused 20)

-- what `ends_in` and `look_in` answer, x, is made so; and where the bytes are those of a table that is whole, it is what the table says
abbrev pub MadeOf : {X : Type 0} → (Entered End → X) → Bool → List ℕ → List ℕ → ℕ → (HullTable → Answer X) → Type 0
MadeOf make render n m i x =
    (x (file_table render) ≡ made_in make render n m i)
    × ((s : List ℕ) (t : Tables) (whole : Bool) → Read s t n m whole → whole ≡ true → render ≡ is_render t.table → x t.table ≡ made_from make s t i)
