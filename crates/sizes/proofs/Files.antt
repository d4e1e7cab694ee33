-- Two fields of 24 bytes one behind the other are one of the two layouts, and what they spell is read from their values. With that, Note 10 in
-- both directions (specs/Files.antt). Assumes nothing.
use Prim.Native.Nat.{ℕ, zero, suc, ◌+◌, ◌*◌, ◌<◌}
use mathlib.Core.Path.{◌≡◌, refl, sym, ap, ap₂, ◌∙◌}
use mathlib.Core.Logic.{inl, inr}
use mathlib.Core.Bool.{true}
use mathlib.Core.List.{List, [], ◌∷◌, ◌++◌}
use native.Mathlib.Omega.{arith}
use borrow.Author.Tests.{eq-eqb}
use lib.ListN.{length, get_or}
use lib.Ieee.{Float, binary32, of_bits}
use Rattle.format.specs.Answer.{answer}
use Rattle.math.specs.Vector.{vector}
use Rattle.sizes.specs.Sizes.{float_in, bounds_in, bounds, body_sizes, are_bodies, sizes_of}
use Rattle.sizes.specs.Files.{LaidOut, field_bytes, sizes_of_values, EveryFile}
use Rattle.sizes.proofs.Rows.{else_26, not_54}
use Rattle.sizes.proofs.Directions.{accepts, accepted, not_bodies, refusals, enough_turns}

no_more : (n : ℕ) → n ≡ n + 0
no_more n = omega arith

both_long : (v w : List ℕ) → length (v ++ w) ≡ length w + length v
both_long [] w = no_more (length w)
both_long (x ∷ v) w = let z = both_long v w in let y : length (x ∷ v) ≡ suc (length v) = refl in let u : length ((x ∷ v) ++ w) ≡ suc (length (v ++ w)) = refl in omega (arith, z, y, u)

-- an entry of the second list, and one of the first
past : (v w : List ℕ) (m k : ℕ) → m ≡ k + length v → get_or (v ++ w) m 0 ≡ get_or w k 0
past [] w m k e = ap (λ n. get_or w n 0) (e ∙ sym (no_more k))
past (x ∷ v) w zero k e = let y : length (x ∷ v) ≡ suc (length v) = refl in absurd (omega (arith, e, y))
past (x ∷ v) w (suc m) k e = let y : length (x ∷ v) ≡ suc (length v) = refl in past v w m k (omega (arith, e, y))

within : (v w : List ℕ) (k : ℕ) → k < length v → get_or (v ++ w) k 0 ≡ get_or v k 0
within [] w k h = absurd (omega (arith, h))
within (x ∷ v) w zero h = refl
within (x ∷ v) w (suc k) h = within v w k (omega (arith, h))

word_same : (a b c d e f g h : ℕ) → a ≡ e → b ≡ f → c ≡ g → d ≡ h
    → ◌≡◌ {A = Float} (of_bits binary32 (a + 256 * b + 65536 * c + 16777216 * d)) (of_bits binary32 (e + 256 * f + 65536 * g + 16777216 * h))
word_same a b c d e f g h p q r s = rw (p, q, r, s) refl

vector_same : {x y z u v w : Float} → x ≡ u → y ≡ v → z ≡ w → vector x y z ≡ vector u v w
vector_same p q r = rw (p, q, r) refl

module _ (a b : ℕ) (v w : List ℕ) (hv : length v ≡ 24) (hw : length w ≡ 24) where
  laid_out : LaidOut (field_bytes a v ++ field_bytes b w) a b
  laid_out =
      record {
        bytes = let z = both_long v (field_bytes b w) in omega (arith, z, hv, hw);
        first = rw (eq-eqb a a refl) refl;
        second = rw (past v (field_bytes b w) 24 0 (omega (arith, hv)), past v (field_bytes b w) 25 1 (omega (arith, hv)), past v (field_bytes b w) 26 2 (omega (arith, hv))) (rw (eq-eqb b b refl) refl);
      }

  -- the values' own bytes
  one_byte : (m p : ℕ) → m ≡ p + 3 → p < 24 → get_or (field_bytes a v ++ field_bytes b w) m 0 ≡ get_or v p 0
  one_byte m p e h = past (a ∷ 24 ∷ 0 ∷ []) (v ++ field_bytes b w) m p e ∙ within v (field_bytes b w) p (omega (arith, hv, h))

  two_byte : (m p : ℕ) → m ≡ p + 30 → get_or (field_bytes a v ++ field_bytes b w) m 0 ≡ get_or w p 0
  two_byte m p e =
      past (a ∷ 24 ∷ 0 ∷ []) (v ++ field_bytes b w) m (p + 27) (omega (arith, e))
      ∙ past v (field_bytes b w) (p + 27) (p + 3) (omega (arith, hv))
      ∙ past (b ∷ 24 ∷ 0 ∷ []) w (p + 3) p refl

  one_float : (m p : ℕ) → m ≡ p + 3 → p + 3 < 24 → float_in (field_bytes a v ++ field_bytes b w) m ≡ float_in v p
  one_float m p e h =
      word_same
      (get_or (field_bytes a v ++ field_bytes b w) m 0) (get_or (field_bytes a v ++ field_bytes b w) (m + 1) 0)
      (get_or (field_bytes a v ++ field_bytes b w) (m + 2) 0) (get_or (field_bytes a v ++ field_bytes b w) (m + 3) 0)
      (get_or v p 0) (get_or v (p + 1) 0) (get_or v (p + 2) 0) (get_or v (p + 3) 0)
      (one_byte m p e (omega (arith, h)))
      (one_byte (m + 1) (p + 1) (omega (arith, e)) (omega (arith, h)))
      (one_byte (m + 2) (p + 2) (omega (arith, e)) (omega (arith, h)))
      (one_byte (m + 3) (p + 3) (omega (arith, e)) (omega (arith, h)))

  two_float : (m p : ℕ) → m ≡ p + 30 → float_in (field_bytes a v ++ field_bytes b w) m ≡ float_in w p
  two_float m p e =
      word_same
      (get_or (field_bytes a v ++ field_bytes b w) m 0) (get_or (field_bytes a v ++ field_bytes b w) (m + 1) 0)
      (get_or (field_bytes a v ++ field_bytes b w) (m + 2) 0) (get_or (field_bytes a v ++ field_bytes b w) (m + 3) 0)
      (get_or w p 0) (get_or w (p + 1) 0) (get_or w (p + 2) 0) (get_or w (p + 3) 0)
      (two_byte m p e)
      (two_byte (m + 1) (p + 1) (omega (arith, e)))
      (two_byte (m + 2) (p + 2) (omega (arith, e)))
      (two_byte (m + 3) (p + 3) (omega (arith, e)))

  first_value : bounds_in (field_bytes a v ++ field_bytes b w) 3 ≡ bounds_in v 0
  first_value =
      ap₂ bounds
      (vector_same (one_float 3 0 refl (omega arith)) (one_float 7 4 refl (omega arith)) (one_float 11 8 refl (omega arith)))
      (vector_same (one_float 15 12 refl (omega arith)) (one_float 19 16 refl (omega arith)) (one_float 23 20 refl (omega arith)))

  second_value : bounds_in (field_bytes a v ++ field_bytes b w) 30 ≡ bounds_in w 0
  second_value =
      ap₂ bounds
      (vector_same (two_float 30 0 refl) (two_float 34 4 refl) (two_float 38 8 refl))
      (vector_same (two_float 42 12 refl) (two_float 46 16 refl) (two_float 50 20 refl))

-- a file of two right fields in either order, with good bounds, is accepted with the bounds that its values spell
module _ (v w : List ℕ) (hv : length v ≡ 24) (hw : length w ≡ 24) (g : are_bodies (sizes_of_values v w) ≡ true) where
  accepts_in_order : sizes_of (field_bytes 1 v ++ field_bytes 2 w) ≡ answer (sizes_of_values v w)
  accepts_in_order =
      accepts (field_bytes 1 v ++ field_bytes 2 w) (sizes_of_values v w)
      (record { either = inl (laid_out 1 2 v w hv hw, sym (ap₂ body_sizes (first_value 1 2 v w hv hw) (second_value 1 2 v w hv hw))) }) g

  accepts_turned : sizes_of (field_bytes 2 w ++ field_bytes 1 v) ≡ answer (sizes_of_values v w)
  accepts_turned =
      accepts (field_bytes 2 w ++ field_bytes 1 v) (sizes_of_values v w)
      (record { either = inr (laid_out 2 1 w v hw hv, sym (ap₂ body_sizes (second_value 2 1 w v hw hv) (first_value 2 1 w v hw hv))) }) g

pub every_file : EveryFile
every_file = record {
  accepted = accepted;
  accepts = λ s z a. accepts s z a.spells_them a.bodies;
  in_order = accepts_in_order;
  turned = accepts_turned;
  refusals = refusals;
  says_26 = λ s h. else_26 s (λ l. h (inl l)) (λ l. h (inr l));
  says_27 = λ s u. not_bodies s u.sizes u.spells_them u.no_bodies;
  empty = sym (not_54 [] (λ e. omega (arith, e)));
  turns = enough_turns;
}
