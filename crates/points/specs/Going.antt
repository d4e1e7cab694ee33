-- For the contracts of functions that no other crate can name; a reader of the calls may leave this file out.
-- For private contracts: a group of points on its way down.
use Rattle.std.specs.Prelude.{ℕ, zero, suc, ◌+◌, ◌*◌, ◌<◌, ◌≤◌, ◌-◌, ◌/◌, ◌%◌, ◌≡◌, Bool, true, false, cond, not, List, [], ◌∷◌, leb, eqb, Float, length, get_or, take, drop}
use Rattle.std.specs.Float.{nan}
use Rattle.std.specs.Int.{w64, trailing_zeros}
use Rattle.std.specs.Prelude.{bit_and}
use Rattle.std.specs.Float.Ieee.{le}
use Rattle.format.specs.Contents.{code_of}
use Rattle.math.specs.Vector.{vector}
use Rattle.math.specs.declared.vector.Vector3.{Vector3}
use Rattle.math.specs.declared.vector.Axis.{Axis}
use Rattle.math.specs.declared.vector.Axis.TheVariants.{X, Y, Z}
use Rattle.math.specs.Plane as Pl
use Rattle.walk.specs.Table.{Child, node, child_on}
use Rattle.nodes.specs.Tables.{End}
use Rattle.nodes.specs.Fast.{table, onto_child, onto_word, child_of, node_of, word_on}
use Rattle.nodes.specs.declared.table.HullTable.{HullTable}
use Rattle.nodes.specs.declared.table.Tables.{Tables}
use Rattle.nodes.specs.declared.read.Onto.{Onto}
use Rattle.nodes.specs.declared.read.Words.{Words}
use Rattle.nodes.specs.Fast.{is_render, plane_here}
use Rattle.nodes.specs.Lanes.{point_in}
use Rattle.nodes.specs.Walks.{Read}
use Rattle.points.specs.declared.few.Given.{Given}
use Rattle.points.specs.declared.few.Met.{Met}
use Rattle.points.specs.declared.few.Met.TheVariants as K
use Rattle.ways.specs.Groups.{Meets, settled, onward, meets, byte_at, reads_at, fill, kept}
use Rattle.points.specs.declared.one.Pair.{Pair}
use Rattle.points.specs.declared.one.Passing.{Passing}
use Rattle.points.specs.declared.one.Passing.TheVariants as Q
use Rattle.points.specs.declared.group.Meeting.{Meeting}
use Rattle.points.specs.declared.group.Meeting.TheVariants as H
use Rattle.points.specs.declared.group.Parts.{Parts}
use Rattle.points.specs.declared.group.Down.{Down}
use Rattle.points.specs.declared.group.Down.TheVariants as D

-- the point of a number; a NaN past the list's end
abbrev pub point_at : List Float → ℕ → Vector3
point_at cs q = vector (get_or cs (q * 3) nan) (get_or cs (q * 3 + 1) nan) (get_or cs (q * 3 + 2) nan)

abbrev pub meeting_meets : HullTable → Meeting → Meets End
meeting_meets t (H.Settled b) = settled b
meeting_meets t (H.Node w h) = onward (record { nd = node_of t w; plane = h })

abbrev pub met_meets : HullTable → Met → Meets End
met_meets t (K.Settled b) = settled b
met_meets t (K.Node w p) = onward (record { nd = node_of t w; plane = plane_here p.now 0 })

-- what a group meets at a child, with k nodes more to enter
abbrev pub met : List ℕ → Tables → ℕ → Onto → Meets End
met s t k c = meets (table s t) code_of k (onto_child t.table c)

-- the same for one point alone: the byte that settles it, or the child that it goes on to
pub data OneMet : Type 0 where
  rests : ℕ → OneMet
  goes_to : Child End → OneMet

abbrev pub one_of : Vector3 → Meets End → OneMet
one_of p (settled b) = rests b
one_of p (onward m) = goes_to (child_on m.nd (Pl.point_side m.plane p))

abbrev pub passing_one : HullTable → Passing → OneMet
passing_one t (Q.Settled b) = rests b
passing_one t (Q.Onward c) = goes_to (onto_child t c)

-- the number of an axis, and whether the coordinate of this number is at least a distance
abbrev pub axis_number : Axis → ℕ
axis_number X = 0
axis_number Y = 1
axis_number Z = 2

unfoldable pub reaches : List Float → ℕ → Float → ℕ → Bool
reaches cs axis d q = le d (get_or cs (q * 3 + axis) nan)

-- whatever a test that is passed by name says of a point is what f says
abbrev pub Tests : (ℕ → Bool → Type 0) → (ℕ → Bool) → Type 0
Tests says f = (q : ℕ) (b : Bool) → says q b → b ≡ f q

-- points parted by a test: those for which it holds lie at the front of the list, the others aside
abbrev pub Sided : (ℕ → Bool) → List ℕ → List ℕ → List ℕ → ℕ → Type 0
Sided f ids l aside n =
    (n ≤ length ids) × ((length l ≡ length ids) × ((take n l ≡ kept f ids) × (take (length ids - n) aside ≡ kept (λ q. not (f q)) ids)))

module _ (s : List ℕ) (t : Tables) (cs : List Float) where
  -- the reads of a group, and the bytes that settle its points
  abbrev pub reads_of : ℕ → Child End → List ℕ → ℕ
  reads_of k c ids = reads_at (table s t) code_of (point_at cs) k c ids

  abbrev pub settled_by : ℕ → Child End → List ℕ → List ℕ → List ℕ
  settled_by k c ids out = fill (λ q. byte_at (table s t) code_of k c (point_at cs q)) ids out

  -- a group is settled: the reads n, and the bytes out of those before
  pub record Settles (k : ℕ) (c : Child End) (ids before : List ℕ) (n : ℕ) (out : List ℕ) : Type 0 where
    pub counted : n ≡ reads_of k c ids
    pub bytes : out ≡ settled_by k c ids before

  -- one point: its byte and its reads
  pub record OneIs (k : ℕ) (c : Child End) (q b n : ℕ) : Type 0 where
    pub counted : n ≡ reads_of k c (q ∷ [])
    pub byte : b ≡ byte_at (table s t) code_of k c (point_at cs q)

  -- two points that go apart at a node with these words: the bytes and the reads of each
  abbrev pub PairIs : ℕ → Words → ℕ → ℕ → Pair → Type 0
  PairIs k w p q r =
      OneIs k (child_of t.table (word_on w true)) p r.first.byte r.first.reads
      × OneIs k (child_of t.table (word_on w false)) q r.second.byte r.second.reads

  -- a group of two is settled so: the reads n, and the bytes out of those before
  pub record TwoSettled (k : ℕ) (w : Words) (ids before : List ℕ) (n : ℕ) (out : List ℕ) : Type 0 where
    pub counted : n ≡ reads_of k (child_of t.table (word_on w true)) (take 1 ids) + reads_of k (child_of t.table (word_on w false)) (drop 1 ids)
    pub bytes : out ≡ settled_by k (child_of t.table (word_on w false)) (drop 1 ids) (settled_by k (child_of t.table (word_on w true)) (take 1 ids) before)

  -- a group is divided at a node, into the first f of the points l and the others
  pub record Divides (k : ℕ) (c : Child End) (ids before : List ℕ) (w : Words) (f j n : ℕ) (l out : List ℕ) : Type 0 where
    pub some : 0 < f
    pub not_all : f < length l
    pub as_long : length l ≡ length ids
    pub kept : out ≡ before
    pub fewer : j ≤ k
    pub counted : reads_of k c ids ≡ n + (reads_of j (child_of t.table (word_on w true)) (take f l) + reads_of j (child_of t.table (word_on w false)) (drop f l))
    pub bytes : settled_by k c ids before ≡ settled_by j (child_of t.table (word_on w false)) (drop f l) (settled_by j (child_of t.table (word_on w true)) (take f l) before)
    pub other : settled_by k c ids before ≡ settled_by j (child_of t.table (word_on w true)) (take f l) (settled_by j (child_of t.table (word_on w false)) (drop f l) before)

  -- what going down says
  abbrev pub Went : ℕ → Child End → List ℕ → List ℕ → Down → List ℕ → List ℕ → Type 0
  Went k c ids before (D.Settled n) l out = Settles k c ids before n out
  Went k c ids before (D.Divided w f j n) l out = Divides k c ids before w f j n l out

-- the part of a list from one place up to another
abbrev pub part : ℕ → ℕ → List ℕ → List ℕ
part a b l = take (b - a) (drop a l)

-- where a group that stands from lo to hi is divided, the first f points being in front: the part with fewer points, and the other
unfoldable pub parts_of : Words → ℕ → ℕ → ℕ → Parts
parts_of w lo f hi =
    cond (leb f (hi - (lo + f)))
    (record { fewer = onto_word (word_on w true); from = lo; to = lo + f; more = onto_word (word_on w false); lo = lo + f; hi = hi })
    (record { fewer = onto_word (word_on w false); from = lo + f; to = hi; more = onto_word (word_on w true); lo = lo; hi = lo + f })

-- the place of the first zero; the length where there is none
unfoldable pub first_zero : List ℕ → ℕ
first_zero [] = 0
first_zero (b ∷ bs) = cond (eqb b 0) 0 (suc (first_zero bs))

-- the numbers from a number on, so many
abbrev pub from : ℕ → ℕ → List ℕ
from q zero = []
from q (suc n) = q ∷ from (suc q) n

-- a group as a number of 64 bits: the places of its bits, where n bits are left and the lowest stands for the point i
unfoldable pub members_from : ℕ → ℕ → ℕ → List ℕ
members_from zero i x = []
members_from (suc n) i x = cond (eqb (x % 2) 1) (i ∷ members_from n (suc i) (x / 2)) (members_from n (suc i) (x / 2))

abbrev pub members : ℕ → List ℕ
members x = members_from 64 0 x

-- the first of them
abbrev pub first : ℕ → ℕ
first x = trailing_zeros w64 x

-- and the next
abbrev pub second : ℕ → ℕ
second x = first (bit_and x (x - 1))

-- of a group those for which a test holds
unfoldable pub chosen_from : (ℕ → Bool) → ℕ → ℕ → ℕ → ℕ
chosen_from f zero i x = 0
chosen_from f (suc n) i x = cond (f i) (x % 2) 0 + 2 * chosen_from f n (suc i) (x / 2)

abbrev pub chosen : (ℕ → Bool) → ℕ → ℕ
chosen f x = chosen_from f 64 0 x

-- the first eight points, wherever they stand
abbrev pub Eight : List Float → List Float → Type 0
Eight cs l = (q : ℕ) → q < 8 → point_in l q ≡ point_at cs q

-- the nodes' and the planes' own bytes, of a file that has all of them, and the first eight points
abbrev pub Whole : Given → Type 0
Whole g =
    Read g.s.now g.t g.sections.nodes.now g.sections.planes.now true
    × ((g.sections.render ≡ is_render g.t.table) × Eight g.coords.now g.eight.now)

-- coordinates of some points, at most `most`, and a list with an entry for each of them
pub record Asked (most : ℕ) (cs : List Float) (lent : ℕ) : Type 0 where
  pub some : 0 < length cs / 3
  pub few : length cs / 3 ≤ most
  pub threes : length cs ≡ length cs / 3 * 3
  pub room : length cs / 3 ≤ lent

-- each point of a call has its byte, and the list an entry for each of them
pub record Done (s : List ℕ) (t : Tables) (cs : List Float) (root reads : ℕ) (bytes : List ℕ) (lent : ℕ) : Type 0 where
  pub before : List ℕ
  pub as_long : length before ≡ length bytes
  pub threes : length cs ≡ length bytes * 3
  pub few : length bytes ≤ 1024
  pub room : length bytes ≤ lent
  pub settled : Settles s t cs t.nodes.count (node root) (from 0 (length bytes)) before reads bytes
