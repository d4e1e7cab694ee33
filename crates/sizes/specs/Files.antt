-- Note 10 in both directions: which files are accepted and with what bounds, and with which number each other one is refused. For every list
-- of bytes, nothing assumed. proofs/Files.antt proves `EveryFile`.
use Rattle.std.specs.Prelude.{ℕ, suc, ◌+◌, ◌≤◌, ◌≡◌, ◌⊎◌, true, false, List, [], ◌∷◌, ◌++◌, length}
use Rattle.format.specs.Answer.{answer, refused}
use Rattle.sizes.specs.Sizes.{bounds_in, body_sizes, sizes_in, are_bodies, row_from, sizes_of, starts_field}
use Rattle.sizes.specs.declared.BodySizes.{BodySizes}

-- 54 bytes: a field of 24 bytes with tag a, and one with tag b behind it
pub record LaidOut (s : List ℕ) (a b : ℕ) : Type 0 where
  pub bytes : length s ≡ 54
  pub first : starts_field s 0 a ≡ true
  pub second : starts_field s 27 b ≡ true

-- both tags exactly once, in either order
abbrev pub TwoFields : List ℕ → Type 0
TwoFields s = LaidOut s 1 2 ⊎ LaidOut s 2 1

-- these are the sizes that the two fields spell
pub record Spells (s : List ℕ) (z : BodySizes) : Type 0 where
  pub either : (LaidOut s 1 2 × (z ≡ sizes_in s 3 30)) ⊎ (LaidOut s 2 1 × (z ≡ sizes_in s 30 3))

pub record Accepted (s : List ℕ) (z : BodySizes) : Type 0 where
  pub spells_them : Spells s z
  pub bodies : are_bodies z ≡ true

-- the two fields spell sizes that are no bodies
pub record Unfit (s : List ℕ) : Type 0 where
  pub sizes : BodySizes
  pub spells_them : Spells s sizes
  pub no_bodies : are_bodies sizes ≡ false

-- a field with a value of 24 bytes
abbrev pub field_bytes : ℕ → List ℕ → List ℕ
field_bytes tag value = tag ∷ 24 ∷ 0 ∷ value

-- the bounds of two values of 24 bytes
abbrev pub sizes_of_values : List ℕ → List ℕ → BodySizes
sizes_of_values v w = body_sizes (bounds_in v 0) (bounds_in w 0)

pub record EveryFile : Type 0 where
  -- a file is accepted with the bounds z exactly if it is two right fields that spell z
  pub accepted : (s : List ℕ) (z : BodySizes) → sizes_of s ≡ answer z → Accepted s z
  pub accepts : (s : List ℕ) (z : BodySizes) → Accepted s z → sizes_of s ≡ answer z
  -- so two right fields written one behind the other are, in either order
  pub in_order : (v w : List ℕ) → length v ≡ 24 → length w ≡ 24 → are_bodies (sizes_of_values v w) ≡ true
      → sizes_of (field_bytes 1 v ++ field_bytes 2 w) ≡ answer (sizes_of_values v w)
  pub turned : (v w : List ℕ) → length v ≡ 24 → length w ≡ 24 → are_bodies (sizes_of_values v w) ≡ true
      → sizes_of (field_bytes 2 w ++ field_bytes 1 v) ≡ answer (sizes_of_values v w)
  -- it is refused with 26 if it is not two right fields, and with 27, after 26 over the whole file, if it is and they spell no bodies;
  -- with no other number
  pub refusals : (s : List ℕ) (n : ℕ) → sizes_of s ≡ refused n → ((n ≡ 26) × (TwoFields s → ⊥)) ⊎ ((n ≡ 27) × Unfit s)
  pub says_26 : (s : List ℕ) → (TwoFields s → ⊥) → sizes_of s ≡ refused 26
  pub says_27 : (s : List ℕ) → Unfit s → sizes_of s ≡ refused 27
  pub empty : sizes_of [] ≡ refused 26
  -- `row_from` has turns enough: as many as there are bytes behind the place; more change nothing
  pub turns : (k : ℕ) (s : List ℕ) (at : ℕ) → length s ≤ at + k → row_from (suc k) s at ≡ row_from k s at
