-- A contents code that a file has negated is looked up by its distance from -1, which is in range for every number.
-- Assumes nothing.
use Rattle.std.specs.Prelude.{Some, None}
use Prim.Native.Nat.{ℕ, zero, suc, ◌+◌, ◌^◌, ◌<◌, zero-le}
use mathlib.Core.Path.{◌≡◌, refl, sym, ap, ◌∙◌, subst}
use mathlib.Core.Bool.{Bool, true, false}
use native.Mathlib.Omega.{arith}
use native.Mathlib.Numerals.{add-one}
use native.Mathlib.Nat.{not-suc-le-zero}
use borrow.Author.Tests.{ltb-true, ltb-false, lt-ltb, le-ltb, ne_eqb}
use lib.Dec.{T, ltb}
use lib.IntN.{ℤ, pos, negsuc, nat_abs}
use lib.Signed.{lt_z, mag}
use mir.Syntax.{Width}
use mir.Val.{SFits, to_z, hbits}
use mir.Facts.{to_z-of_z}
use lib.ListN.{get_or}
use Rattle.format.specs.Layout as Layout
use Rattle.format.specs.Contents.{code_of}
use Rattle.format.specs.Code.{contents_of, contents_of_signed, negated_contents}
use Rattle.format.specs.declared.contents.BspLeafContents.{BspLeafContents}
use Rattle.format.specs.declared.contents.BspLeafContents.TheVariants.{Empty, Solid, Water, Slime, Lava, Sky, Current0, Current90, Current180, Current270, CurrentUp, CurrentDown}

-- the code of some contents stands for them
pub code_stands : (c : BspLeafContents) → contents_of (code_of c) ≡ Some c
unfolding contents_of
code_stands Empty = refl
code_stands Solid = refl
code_stands Water = refl
code_stands Slime = refl
code_stands Lava = refl
code_stands Sky = refl
code_stands Current0 = refl
code_stands Current90 = refl
code_stands Current180 = refl
code_stands Current270 = refl
code_stands CurrentUp = refl
code_stands CurrentDown = refl

-- how far a number below 0 is from it
pub abs_is : (z : ℤ) → lt_z z (pos 0) ≡ true → nat_abs z ≡ mag z + 1
abs_is (pos n) e = absurd (not-suc-le-zero (ltb-true n 0 e))
abs_is (negsuc k) e = sym (add-one k)

-- no code is above 14
pub high : (n : ℕ) → 14 < n → contents_of n ≡ None
unfolding contents_of
high n h =
    simp
    (ne_eqb n 1 (λ e. omega arith), ne_eqb n 2 (λ e. omega arith), ne_eqb n 3 (λ e. omega arith), ne_eqb n 4 (λ e. omega arith), ne_eqb n 5 (λ e. omega arith), ne_eqb n 6 (λ e. omega arith), ne_eqb n 9 (λ e. omega arith), ne_eqb n 10 (λ e. omega arith), ne_eqb n 11 (λ e. omega arith), ne_eqb n 12 (λ e. omega arith), ne_eqb n 13 (λ e. omega arith), ne_eqb n 14 (λ e. omega arith))

module _ (w : Width) (big : 14 < 2 ^ hbits w) where
  top : (k : ℕ) → k < 2 ^ hbits w → (b : Bool) → ltb (suc k) (2 ^ hbits w) ≡ b → contents_of_signed (to_z w (suc k)) ≡ contents_of (suc k)
  top k h true e = simp e
  top k h false e = simp e (sym (high (suc k) (omega (arith, ltb-false (suc k) (2 ^ hbits w) e))))

  pub below : (z : ℤ) → SFits w z → lt_z z (pos 0) ≡ true → negated_contents w z ≡ contents_of (mag z + 1)
  unfolding negated_contents
  below (pos n) fit e = absurd (not-suc-le-zero (ltb-true n 0 e))
  below (negsuc k) fit e = rw (add-one k) (top k fit.sfits (ltb (suc k) (2 ^ hbits w)) refl)

  pub above : (z : ℤ) → SFits w z → lt_z z (pos 0) ≡ false → negated_contents w z ≡ None
  unfolding negated_contents contents_of
  above (pos zero) fit e = simp (lt-ltb 0 (2 ^ hbits w) (omega arith))
  above (pos (suc n)) fit e = ap contents_of_signed (to_z-of_z {w = w} {z = negsuc n} (record { sfits = omega (arith, fit.sfits) }))
  above (negsuc k) fit e = absurd (subst T e tt)

-- two widths that both hold a number agree on it
pub widths : (w w' : Width) → 14 < 2 ^ hbits w → 14 < 2 ^ hbits w' → (z : ℤ) → SFits w z → SFits w' z
    → (b : Bool) → lt_z z (pos 0) ≡ b → negated_contents w z ≡ negated_contents w' z
widths w w' h h' z f f' true e = below w h z f e ∙ sym (below w' h' z f' e)
widths w w' h h' z f f' false e = above w h z f e ∙ sym (above w' h' z f' e)

named : (k : ℕ) → contents_of (k + 1) ≡ get_or Layout.contents k None
unfolding contents_of
named zero = refl
named (suc zero) = refl
named (suc (suc zero)) = refl
named (suc (suc (suc zero))) = refl
named (suc (suc (suc (suc zero)))) = refl
named (suc (suc (suc (suc (suc zero))))) = refl
named (suc (suc (suc (suc (suc (suc zero)))))) = refl
named (suc (suc (suc (suc (suc (suc (suc zero))))))) = refl
named (suc (suc (suc (suc (suc (suc (suc (suc zero)))))))) = refl
named (suc (suc (suc (suc (suc (suc (suc (suc (suc zero))))))))) = refl
named (suc (suc (suc (suc (suc (suc (suc (suc (suc (suc zero)))))))))) = refl
named (suc (suc (suc (suc (suc (suc (suc (suc (suc (suc (suc zero))))))))))) = refl
named (suc (suc (suc (suc (suc (suc (suc (suc (suc (suc (suc (suc zero)))))))))))) = refl
named (suc (suc (suc (suc (suc (suc (suc (suc (suc (suc (suc (suc (suc zero))))))))))))) = refl
named (suc (suc (suc (suc (suc (suc (suc (suc (suc (suc (suc (suc (suc (suc k)))))))))))))) = high (suc (suc (suc (suc (suc (suc (suc (suc (suc (suc (suc (suc (suc (suc k))))))))))))) + 1) (omega arith)

-- Every number that a field of a file can hold stands for the contents that the specifications name by it, sky among them; origin and clip, and
-- any other number, for none.
pub codes : (w : Width) → 14 < 2 ^ hbits w → (z : ℤ) → SFits w z → negated_contents w z ≡ Layout.contents_named z
codes w big (pos n) fit = above w big (pos n) fit (le-ltb n 0 zero-le)
codes w big (negsuc k) fit = below w big (negsuc k) fit refl ∙ named k
