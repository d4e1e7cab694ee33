-- For the contracts of functions below the calls; a reader of the calls may leave this file out.
-- What a trace reads from the bytes of planes and leaves (`sides_in`, `end_in`), and the bytes of a table that is whole, leaves too.
use Rattle.std.specs.Prelude.{Result, Ok, Err, ◌≡◌, ℕ, ◌-◌, ◌*◌, ◌/◌, Bool, true, false, cond, List, length, nat_lt}
use Rattle.format.specs.Answer.{Answer, answer, refused}
use Rattle.format.specs.Refusal.{number_of}
use Rattle.format.specs.declared.refusal.Refusal.{Refusal}
use Rattle.format.specs.declared.contents.BspLeafContents.{BspLeafContents}
use Rattle.math.specs.Plane as Pl
use Rattle.math.specs.declared.vector.Vector3.{Vector3}
use Rattle.math.specs.declared.plane.Hyperplane.{Hyperplane}
use Rattle.math.specs.declared.plane.HyperplaneSide.{HyperplaneSide}
use Rattle.nodes.specs.Fast.{is_render, leaf_contents_here}
use Rattle.nodes.specs.Numbered.{plane_numbered}
use Rattle.nodes.specs.Quick.{word_contents}
use Rattle.nodes.specs.Walks.{is_whole, are_whole, bytes_of, Read}
use Rattle.nodes.specs.declared.table.Tables.{Tables}

-- on which sides of a plane two points lie
abbrev pub two_sides : Vector3 → Vector3 → Hyperplane → HyperplaneSide × HyperplaneSide
two_sides p q h = (Pl.point_side h p, Pl.point_side h q)

-- two sides, each by whether it is the positive one
abbrev pub sides_of : Bool × Bool → HyperplaneSide × HyperplaneSide
sides_of (a, b) = (Pl.side_if a, Pl.side_if b)

abbrev pub sides_answer : Result (Bool × Bool) Refusal → Answer (HyperplaneSide × HyperplaneSide)
sides_answer (Ok s) = answer (sides_of s)
sides_answer (Err e) = refused (number_of e)

-- the plane i of the bytes m (30)
abbrev pub plane_of : List ℕ → ℕ → Answer Hyperplane
plane_of m i = plane_numbered m (length m / 20) i

-- the contents of the end that a word stands for, by the bytes of the leaves
unfoldable pub end_among : Bool → List ℕ → ℕ → Answer BspLeafContents
end_among render l w =
    cond render (cond (nat_lt (65535 - w) (length l / 28)) (leaf_contents_here l ((65535 - w) * 28)) (refused 30))
    (word_contents w)

-- all nodes, planes and leaves lie in n bytes
abbrev pub all_whole : Tables → ℕ → Bool
all_whole t n = cond (are_whole t n) (is_whole t.leaves 28 n) false

abbrev pub leaf_bytes : List ℕ → Tables → List ℕ
leaf_bytes s t = bytes_of true s t.leaves 28

-- the bytes of nodes, planes and leaves are those of a table that is whole
pub record Owned (s : List ℕ) (t : Tables) (render : Bool) (n m l : List ℕ) : Type 0 where
  pub read : Read s t n m true
  pub leaves_whole : is_whole t.leaves 28 (length s) ≡ true
  pub its_leaves : l ≡ leaf_bytes s t
  pub its_table : render ≡ is_render t.table
