-- What a line has met, as one number, and the code of an end. Assumes nothing.
use Rattle.std.specs.Prelude.{Option, Some, None, bit_or}
use Rattle.std.proofs.Common.{ne_eqb}
use Rattle.std.proofs.lemmas.Nat.{or_lt}
use Prim.Native.Nat.{ℕ, zero, suc, ◌-◌, ◌<◌, ◌≤◌}
use native.Mathlib.Omega.{arith}
use mathlib.Core.Path.{◌≡◌, refl, sym, ap, ◌∙◌}
use mathlib.Core.Bool.{Bool, true, false, ◌&&◌}
use mathlib.Core.List.{List}
use lib.Dec.{eqb}
use Rattle.format.specs.Answer as Ans
use Rattle.format.specs.Answer.{Answer, answer}
use Rattle.format.specs.Code.{contents_of}
use Rattle.format.specs.Contents as Contents
use Rattle.format.specs.Contents.{code_of}
use Rattle.format.specs.declared.contents.BspLeafContents.{BspLeafContents}
use Rattle.format.specs.declared.contents.BspLeafContents.TheVariants.{Solid, Empty}
use Rattle.math.specs.declared.vector.Vector3.{Vector3}
use Rattle.walk.specs.Walk.{meet}
use Rattle.nodes.specs.Fast as Fast
use Rattle.nodes.specs.Fast.{coded, contents_met, end_of, is_render}
use Rattle.nodes.specs.Quick.{code_or, said, word_contents}
use Rattle.nodes.specs.declared.table.HullTable.{HullTable}
use Rattle.nodes.specs.declared.table.HullTable.TheVariants.{Render, Clip, Box}
use Rattle.nodes.specs.declared.table.Tables.{Tables}
use Rattle.line.specs.Line.{line_trace}
use Rattle.line.specs.declared.state.LineTrace.{LineTrace}
use Rattle.line.specs.Private.{seen_line, Meets}
use Rattle.line.proofs.States.{in_solid, in_empty, in_other}

-- ---- what a line has met

pub below : (n : ℕ) → n < 8 → (bit_or n 1 < 8) × (bit_or n 2 < 8) × (bit_or n 4 < 8)
below n h = (or_lt 3 n 1 h (omega arith), or_lt 3 n 2 h (omega arith), or_lt 3 n 4 h (omega arith))

module _ (q : Vector3) where
  abbrev l : ℕ → LineTrace
  l n = seen_line q n

  with_solid : (n : ℕ) → n < 8 → seen_line q (bit_or n 1) ≡ line_trace (l n).fraction (l n).end (l n).plane (l n).all_solid true (l n).in_open (l n).in_water
  with_solid zero h = refl
  with_solid (suc zero) h = refl
  with_solid (suc (suc zero)) h = refl
  with_solid (suc (suc (suc zero))) h = refl
  with_solid (suc (suc (suc (suc zero)))) h = refl
  with_solid (suc (suc (suc (suc (suc zero))))) h = refl
  with_solid (suc (suc (suc (suc (suc (suc zero)))))) h = refl
  with_solid (suc (suc (suc (suc (suc (suc (suc zero))))))) h = refl
  with_solid (suc (suc (suc (suc (suc (suc (suc (suc n)))))))) h = absurd (omega arith)

  with_empty : (n : ℕ) → n < 8 → seen_line q (bit_or n 2) ≡ line_trace (l n).fraction (l n).end (l n).plane false (l n).start_solid true (l n).in_water
  with_empty zero h = refl
  with_empty (suc zero) h = refl
  with_empty (suc (suc zero)) h = refl
  with_empty (suc (suc (suc zero))) h = refl
  with_empty (suc (suc (suc (suc zero)))) h = refl
  with_empty (suc (suc (suc (suc (suc zero))))) h = refl
  with_empty (suc (suc (suc (suc (suc (suc zero)))))) h = refl
  with_empty (suc (suc (suc (suc (suc (suc (suc zero))))))) h = refl
  with_empty (suc (suc (suc (suc (suc (suc (suc (suc n)))))))) h = absurd (omega arith)

  with_other : (n : ℕ) → n < 8 → seen_line q (bit_or n 4) ≡ line_trace (l n).fraction (l n).end (l n).plane false (l n).start_solid (l n).in_open true
  with_other zero h = refl
  with_other (suc zero) h = refl
  with_other (suc (suc zero)) h = refl
  with_other (suc (suc (suc zero))) h = refl
  with_other (suc (suc (suc (suc zero)))) h = refl
  with_other (suc (suc (suc (suc (suc zero))))) h = refl
  with_other (suc (suc (suc (suc (suc (suc zero)))))) h = refl
  with_other (suc (suc (suc (suc (suc (suc (suc zero))))))) h = refl
  with_other (suc (suc (suc (suc (suc (suc (suc (suc n)))))))) h = absurd (omega arith)

-- the tests of a code, as those of contents
pub is_solid : (c : BspLeafContents) (n : ℕ) (b : Bool) → n ≡ code_of c → eqb n 2 ≡ b → Contents.equal c Solid ≡ b
unfolding Contents.equal
is_solid c n b e q = ap (λ (x : ℕ). eqb x 2) (sym e) ∙ q

is_empty : (c : BspLeafContents) (n : ℕ) (b : Bool) → n ≡ code_of c → eqb n 1 ≡ b → Contents.equal c Empty ≡ b
unfolding Contents.equal
is_empty c n b e q = ap (λ (x : ℕ). eqb x 1) (sym e) ∙ q

pub solid_code : (looked : Bool) (c : BspLeafContents) {n : ℕ} → n ≡ code_of c → looked && eqb n 2 ≡ looked && Contents.equal c Solid
unfolding Contents.equal
solid_code looked c e = ap (λ (x : ℕ). looked && eqb x 2) e

pub meets_solid : (n code : ℕ) → n < 8 → code ≡ 2 → Meets n code (bit_or n 1)
meets_solid n code h e q c is_c = with_solid q n h ∙ in_solid c (seen_line q n) (is_solid c 2 true (sym e ∙ is_c) refl)

pub meets_empty : (n code : ℕ) → n < 8 → code ≡ 1 → Meets n code (bit_or n 2)
meets_empty n code h e q c is_c =
    with_empty q n h ∙ in_empty c (seen_line q n) (is_solid c 1 false (sym e ∙ is_c) refl) (is_empty c 1 true (sym e ∙ is_c) refl)

pub meets_other : (n code : ℕ) → n < 8 → (code ≡ 2 → ⊥) → (code ≡ 1 → ⊥) → Meets n code (bit_or n 4)
meets_other n code h e g q c is_c =
    with_other q n h ∙ in_other c (seen_line q n) (is_solid c code false is_c (ne_eqb code 2 e)) (is_empty c code false is_c (ne_eqb code 1 g))

-- ---- the code of an end

-- a code that is not 0 is that of contents
pub code_says : (a : Answer BspLeafContents) {n : ℕ} → n ≡ code_or a → (n ≡ 0 → ⊥) → (c : BspLeafContents) × ((answer c ≡ a) × (n ≡ code_of c))
code_says (answer c) e h = (c, (refl, e))
code_says (Ans.refused k) e h = absurd (h e)

known : (n : ℕ) → 1 ≤ n → n ≤ 14 → (n ≡ 7 → ⊥) → (n ≡ 8 → ⊥) → n ≡ code_or (said (contents_of n))
unfolding contents_of
known zero a b x y = absurd (omega arith)
known (suc zero) a b x y = refl
known (suc (suc zero)) a b x y = refl
known (suc (suc (suc zero))) a b x y = refl
known (suc (suc (suc (suc zero)))) a b x y = refl
known (suc (suc (suc (suc (suc zero))))) a b x y = refl
known (suc (suc (suc (suc (suc (suc zero)))))) a b x y = refl
known (suc (suc (suc (suc (suc (suc (suc zero))))))) a b x y = absurd (x refl)
known (suc (suc (suc (suc (suc (suc (suc (suc zero)))))))) a b x y = absurd (y refl)
known (suc (suc (suc (suc (suc (suc (suc (suc (suc zero))))))))) a b x y = refl
known (suc (suc (suc (suc (suc (suc (suc (suc (suc (suc zero)))))))))) a b x y = refl
known (suc (suc (suc (suc (suc (suc (suc (suc (suc (suc (suc zero))))))))))) a b x y = refl
known (suc (suc (suc (suc (suc (suc (suc (suc (suc (suc (suc (suc zero)))))))))))) a b x y = refl
known (suc (suc (suc (suc (suc (suc (suc (suc (suc (suc (suc (suc (suc zero))))))))))))) a b x y = refl
known (suc (suc (suc (suc (suc (suc (suc (suc (suc (suc (suc (suc (suc (suc zero)))))))))))))) a b x y = refl
known (suc (suc (suc (suc (suc (suc (suc (suc (suc (suc (suc (suc (suc (suc (suc n))))))))))))))) a b x y = absurd (omega arith)

unknown : (n : ℕ) → 14 < n → 0 ≡ code_or (said (contents_of n))
unfolding contents_of
unknown n h =
    simp
    (ne_eqb n 1 (λ e. omega arith), ne_eqb n 2 (λ e. omega arith), ne_eqb n 3 (λ e. omega arith), ne_eqb n 4 (λ e. omega arith), ne_eqb n 5 (λ e. omega arith), ne_eqb n 6 (λ e. omega arith), ne_eqb n 9 (λ e. omega arith), ne_eqb n 10 (λ e. omega arith), ne_eqb n 11 (λ e. omega arith), ne_eqb n 12 (λ e. omega arith), ne_eqb n 13 (λ e. omega arith), ne_eqb n 14 (λ e. omega arith))

pub no_code_high : (w : ℕ) → 14 < 65536 - w → 0 ≡ code_or (word_contents w)
no_code_high w h = unknown (65536 - w) h

pub no_code_seven : (w : ℕ) → 65536 - w ≡ 7 → 0 ≡ code_or (word_contents w)
unfolding contents_of
no_code_seven w e = rw e refl

pub no_code_eight : (w : ℕ) → 65536 - w ≡ 8 → 0 ≡ code_or (word_contents w)
unfolding contents_of
no_code_eight w e = rw e refl

pub has_code : (w : ℕ) → w < 65536 → 65536 - w ≤ 14 → (65536 - w ≡ 7 → ⊥) → (65536 - w ≡ 8 → ⊥) → 65536 - w ≡ code_or (word_contents w)
has_code w r h x y = known (65536 - w) (omega (arith, r)) h x y

module _ (s : List ℕ) (t : Tables) (w : ℕ) where
  coded_said : (x : Option BspLeafContents) → said x ≡ meet (Fast.table s t) (coded x)
  unfolding meet
  coded_said (Some c) = refl
  coded_said None = refl

  by_code : (tab : HullTable) → is_render tab ≡ false → coded (contents_of (65536 - w)) ≡ end_of tab w
  by_code Render e = let z : ◌≡◌ {A = ℕ} 0 1 = cc in absurd (omega arith)
  by_code Clip e = refl
  by_code Box e = refl

  pub code_clip : is_render t.table ≡ false → code_or (word_contents w) ≡ code_or (contents_met s t w)
  unfolding contents_met
  code_clip e = ap code_or (coded_said (contents_of (65536 - w)) ∙ ap (meet (Fast.table s t)) (by_code t.table e))
