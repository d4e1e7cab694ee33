-- Two walks side by side (`walk_two`): each is the walk of its point to an end, from the child of a word on. And the sides of eight points (`sides`).
use Rattle.std.specs.Prelude.{◌≡◌, ℕ, ◌+◌, ◌*◌, ◌-◌, ◌<◌, ◌≤◌, Bool, true, false, cond, List, [], ◌∷◌, length, get_or, nat_lt, Float}
use Rattle.std.specs.Float.{nan}
use Rattle.format.specs.Answer.{Answer, answer, refused}
use Rattle.math.specs.Vector as Vec
use Rattle.math.specs.Plane as Pl
use Rattle.math.specs.declared.vector.Vector3.{Vector3}
use Rattle.math.specs.declared.plane.Hyperplane.{Hyperplane}
use Rattle.walk.specs.Walk.{with_visits, walk, point_walk}
use Rattle.walk.specs.Private.{after}
use Rattle.nodes.specs.Tables.{End}
use Rattle.nodes.specs.Fast.{is_render, end_of, table}
use Rattle.nodes.specs.Walks.{ends, are_whole, Read}
use Rattle.nodes.specs.Quick.{or_nothing}
use Rattle.nodes.specs.declared.table.HullTable.{HullTable}
use Rattle.nodes.specs.declared.table.Tables.{Tables}
use Rattle.nodes.specs.declared.lanes.Lane.{Lane}

-- the end that a point comes to from the child of a word, and its visits: none where the child is an end
unfoldable pub landed : List ℕ → Tables → Vector3 → ℕ → Answer (End × ℕ)
landed s t p w = cond (nat_lt w 32768) (with_visits (point_walk (ends (table s t)) w p)) (answer (end_of t.table w, 0))

-- two answers; 0, which is no refusal's number, where one of them is refused
abbrev pub both : {A : Type 0} → Answer A → Answer A → Answer (A × A)
both (answer a) (answer b) = answer (a, b)
both (answer a) (refused n) = refused 0
both (refused n) b = refused 0

-- the two walks where the file has all nodes and planes
unfoldable pub walk_two : List ℕ → Tables → ℕ → ℕ → Vector3 → Vector3 → Answer ((End × ℕ) × (End × ℕ))
walk_two s t v w p q = cond (are_whole t (length s)) (both (landed s t p v) (landed s t q w)) (refused 0)

-- the two walks by the bytes n of the nodes and m of the planes, where they are those of a table that is whole and has so many nodes
abbrev pub TwoIn : List ℕ → List ℕ → Bool → ℕ → ℕ → ℕ → Vector3 → Vector3 → (HullTable → Answer ((End × ℕ) × (End × ℕ))) → Type 0
TwoIn n m render count v w p q x =
    (s : List ℕ) (t : Tables) → Read s t n m true → render ≡ is_render t.table → count ≡ t.nodes.count → x t.table ≡ both (landed s t p v) (landed s t q w)

abbrev pub lane_end : HullTable → Lane → End × ℕ
lane_end t l = (end_of t l.word, l.visits)

-- ---- the sides of eight points

-- the point at a place of a list of coordinates
abbrev pub point_in : List Float → ℕ → Vector3
point_in cs q = Vec.vector (get_or cs (3 * q) nan) (get_or cs (3 * q + 1) nan) (get_or cs (3 * q + 2) nan)

abbrev pub of_eight : (ℕ → Bool) → List Bool
of_eight f = f 0 ∷ f 1 ∷ f 2 ∷ f 3 ∷ f 4 ∷ f 5 ∷ f 6 ∷ f 7 ∷ []

-- the number of these bits, the first one the lowest
abbrev pub number : List Bool → ℕ
number [] = 0
number (b ∷ bs) = cond b 1 0 + 2 * number bs

-- a bit for each of eight points: whether it is in front of a plane
abbrev pub Sides : Hyperplane → List Float → ℕ → Type 0
Sides h cs x = (f : ℕ → Bool) → ((q : ℕ) → q < 8 → Pl.side_if (f q) ≡ Pl.point_side h (point_in cs q)) → x ≡ number (of_eight f)

-- ---- for private contracts

abbrev pub lane_at : ℕ → ℕ → Lane
lane_at w v = record { word = w; visits = v }

-- what is left of a walk that stands at a word after v visits
unfoldable pub rest : List ℕ → Tables → Vector3 → ℕ → ℕ → Answer (End × ℕ)
rest s t p w v = cond (nat_lt w 32768) (after v (walk (ends (table s t)) (t.nodes.count - v) w p)) (answer (end_of t.table w, v))

-- the visits after a step
unfoldable pub counted : ℕ → ℕ → ℕ
counted w v = cond (nat_lt w 32768) (v + 1) v

unfoldable pub both_go : ℕ → ℕ → Bool
both_go a b = cond (nat_lt a 32768) (nat_lt b 32768) false

-- a step from a word to r, which is 65536 where the walk is refused
pub record Steps (s : List ℕ) (t : Tables) (p : Vector3) (w v r : ℕ) : Type 0 where
  pub goes : r < 65536 → rest s t p w v ≡ rest s t p r (counted w v)
  pub stops : 65536 ≤ r → (n : ℕ) × (rest s t p w v ≡ refused n)

-- by the bytes n of the nodes and m of the planes, where they are those of a table that is whole
abbrev pub StepsIn : List ℕ → List ℕ → Bool → ℕ → Vector3 → ℕ → ℕ → ℕ → Type 0
StepsIn n m render count p w v r =
    (s : List ℕ) (t : Tables) (whole : Bool) → Read s t n m whole → whole ≡ true → render ≡ is_render t.table → count ≡ t.nodes.count → Steps s t p w v r

-- what is said of one walk that stands at a word, by the bytes of a table that is whole: 0 for every refusal
abbrev pub GoesOn : List ℕ → List ℕ → Bool → ℕ → Vector3 → ℕ → ℕ → (HullTable → Answer (End × ℕ)) → Type 0
GoesOn n m render count p w v x =
    (s : List ℕ) (t : Tables) → Read s t n m true → render ≡ is_render t.table → count ≡ t.nodes.count → x t.table ≡ or_nothing (rest s t p w v)
