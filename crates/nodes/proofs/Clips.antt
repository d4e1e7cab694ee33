-- A clip node as its words: what the reader at a position makes of them.
-- Assumes nothing.
use Rattle.std.specs.Prelude.{Option, Some, None, not, min, bit_and, ◌^◌}
use Rattle.std.specs.Int.{bit_at}
use Rattle.std.proofs.lemmas.Nat.{and_block, and_mask, and_le_r}
use Rattle.std.proofs.lemmas.Nat.Bits.{and_pow, bit_at_and}
use Rattle.format.specs.declared.contents.BspLeafContents.{BspLeafContents}
use Rattle.std.proofs.Common.{◌≡◌, ℕ, zero, suc, ◌+◌, ◌-◌, ◌*◌, ◌/◌, ◌%◌, ◌<◌, ◌≤◌, Bool, true, false, cond, ltb, eqb, List, length, sym, refl, ap, ◌∙◌, subst, arith, w16, ltb-false, ltb-true, le-ltb, lt-ltb, ne_eqb, ◌⊎◌, inl, inr}
use Rattle.std.proofs.lemmas.Bool.{eqb-true, eqb-false}
use Rattle.format.specs.Answer as Ans
use Rattle.format.specs.Answer.{answer}
use Rattle.format.specs.Step.{ok, refused}
use Rattle.format.specs.Code.{contents_of}
use Rattle.format.proofs.Codes.{high}
use Rattle.records.specs.Node.{with_contents, collision_child_at, collision_node_at}
use Rattle.records.specs.declared.node.BspCollisionNodeChild.{BspCollisionNodeChild}
use Rattle.records.specs.declared.node.BspCollisionNodeChild.TheVariants as C
use Rattle.nodes.specs.Tables.{clip_child}
use Rattle.nodes.specs.Fast.{u16, u32, Pair, Within, is_invalid, invalid, either_invalid, child_of, node_of, clip_node_here}
use Rattle.nodes.specs.declared.table.HullTable.TheVariants.{Clip}
use Rattle.nodes.proofs.Numbers.{low, high_code, i16_is, index_is, index_not}
use Rattle.nodes.proofs.Sections.{within_u16, within_u32}

-- ---- which codes stand for contents: 1 to 6 and 9 to 14

pub few : (n : ℕ) → 1 ≤ n → n ≤ 6 → is_invalid (contents_of n) ≡ false
unfolding contents_of
few zero a b = absurd (omega arith)
few (suc zero) a b = refl
few (suc (suc zero)) a b = refl
few (suc (suc (suc zero))) a b = refl
few (suc (suc (suc (suc zero)))) a b = refl
few (suc (suc (suc (suc (suc zero))))) a b = refl
few (suc (suc (suc (suc (suc (suc zero)))))) a b = refl
few (suc (suc (suc (suc (suc (suc (suc n))))))) a b = absurd (omega arith)

pub between : (n : ℕ) → 6 < n → n < 9 → is_invalid (contents_of n) ≡ true
unfolding contents_of
between n a b =
    simp
    (ne_eqb n 1 (λ e. omega arith), ne_eqb n 2 (λ e. omega arith), ne_eqb n 3 (λ e. omega arith), ne_eqb n 4 (λ e. omega arith), ne_eqb n 5 (λ e. omega arith), ne_eqb n 6 (λ e. omega arith), ne_eqb n 9 (λ e. omega arith), ne_eqb n 10 (λ e. omega arith), ne_eqb n 11 (λ e. omega arith), ne_eqb n 12 (λ e. omega arith), ne_eqb n 13 (λ e. omega arith), ne_eqb n 14 (λ e. omega arith))

many : (m : ℕ) → m ≤ 5 → is_invalid (contents_of (9 + m)) ≡ false
unfolding contents_of
many zero h = refl
many (suc zero) h = refl
many (suc (suc zero)) h = refl
many (suc (suc (suc zero))) h = refl
many (suc (suc (suc (suc zero)))) h = refl
many (suc (suc (suc (suc (suc zero))))) h = refl
many (suc (suc (suc (suc (suc (suc n)))))) h = absurd (omega arith)

pub currents : (n : ℕ) → 9 ≤ n → n ≤ 14 → is_invalid (contents_of n) ≡ false
currents n a b = let q : 9 + (n - 9) ≡ n = omega arith in subst (λ (x : ℕ). is_invalid (contents_of x) ≡ false) q (many (n - 9) (omega arith))

module _ (w : ℕ) where
  pub is_node : w < 32768 → false ≡ invalid w
  unfolding invalid
  is_node h = simp (lt-ltb w 32768 h)

  by_code : 32768 ≤ w → (b : Bool) → is_invalid (contents_of (65536 - w)) ≡ b → b ≡ invalid w
  unfolding invalid
  by_code h b q = simp (le-ltb w 32768 h) (sym q)

  pub too_high : 32768 ≤ w → w < 65522 → true ≡ invalid w
  too_high a b = by_code a true (ap is_invalid (high (65536 - w) (omega arith)))

  pub a_current : 65522 ≤ w → w < 65528 → false ≡ invalid w
  a_current a b = by_code (omega arith) false (currents (65536 - w) (omega arith) (omega arith))

  pub no_contents : 65528 ≤ w → w < 65530 → true ≡ invalid w
  no_contents a b = by_code (omega arith) true (between (65536 - w) (omega arith) (omega arith))

  pub first_contents : 65530 ≤ w → w < 65536 → false ≡ invalid w
  first_contents a b = by_code (omega arith) false (few (65536 - w) (omega arith) (omega arith))

  -- the words with the bit of 8 taken away
  module _ (fits : w < 65536) (x : ℕ) (is_x : x ≡ w - w % 16 / 8 * 8) where
    by_run : 65522 ≤ x → (c : Bool) → ltb w 65528 ≡ c → false ≡ invalid w
    by_run h true r = let m = ltb-true w 65528 r in a_current (omega arith) m
    by_run h false r = let l = ltb-false w 65528 r in first_contents (omega arith) fits

    by_none : 32768 ≤ x → x < 65522 → (c : Bool) → ltb w 65522 ≡ c → true ≡ invalid w
    by_none g h true r = let m = ltb-true w 65522 r in too_high (omega arith) m
    by_none g h false r = let l = ltb-false w 65522 r in no_contents (omega arith) (omega arith)

    -- its highest bit, and that of 65521 less it without the highest bit
    pub by_bits : (m : ℕ) → m ≡ min (w / 32768 % 2) ((65521 - x % 32768) / 32768 % 2) → (c : Bool) → ltb w 32768 ≡ c → (b : Bool) → eqb m 0 ≡ b → not b ≡ invalid w
    by_bits m is_m true q true r = let l = ltb-true w 32768 q in is_node l
    by_bits m is_m true q false r = let l = ltb-true w 32768 q in let z = eqb-false m 0 r in absurd (z (is_m ∙ omega arith))
    by_bits m is_m false q true r = let l = ltb-false w 32768 q in let z = eqb-true m 0 r in by_run (omega (arith, is_m)) (ltb w 65528) refl
    by_bits m is_m false q false r = let l = ltb-false w 32768 q in let z = eqb-false m 0 r in by_none (omega arith) (omega (arith, is_m, z)) (ltb w 65522) refl

-- ---- the words of two children as one number

-- a word without its bits of 32768 and of 8
without : (w : ℕ) → w < 65536 → bit_and w 32759 ≡ (w - w % 16 / 8 * 8) % 32768
without w h =
    let a : bit_and (w / 16 * 2 ^ 4 + w % 16) (2047 * 2 ^ 4 + 7) ≡ bit_and (w / 16) 2047 * 2 ^ 4 + bit_and (w % 16) 7 = and_block 4 (w / 16) 2047 (w % 16) 7 (omega arith) (omega arith) in
    let n : w / 16 * 2 ^ 4 + w % 16 ≡ w = omega arith in
    let m : bit_and (w / 16) 2047 ≡ w / 16 % 2048 = and_mask (w / 16) 11 in
    let k : bit_and (w % 16) 7 ≡ w % 16 % 8 = and_mask (w % 16) 3 in
    sym (ap (λ (z : ℕ). bit_and z 32759) n) ∙ a ∙ rw (m, k) (omega arith)

module _ (n : ℕ) where
  abbrev f : ℕ
  f = n % 65536

  abbrev b : ℕ
  b = n / 65536

  parts : (x y : ℕ) → y < 65536 → bit_and n (x * 65536 + y) ≡ bit_and b x * 65536 + bit_and f y
  parts x y h = let e : b * 2 ^ 16 + f ≡ n = omega arith in sym (ap (λ (z : ℕ). bit_and z (x * 65536 + y)) e) ∙ and_block 16 b x f y (omega arith) h

pub low_parts : (n : ℕ) → n < 4294967296 → bit_and n 2146926583 ≤ 2146926583
low_parts n h = and_le_r n 2146926583

pub two_bits : (n : ℕ) → n < 4294967296 → (c : Bool) → eqb (bit_and (bit_and n (4294049777 - bit_and n 2146926583)) 2147516416) 0 ≡ c → not c ≡ either_invalid n
two_bits n h c q =
    let x : ℕ = bit_and (b n) 32759 in
    let y : ℕ = bit_and (f n) 32759 in
    let hx : x ≤ 32759 = and_le_r (b n) 32759 in
    let hy : y ≤ 32759 = and_le_r (f n) 32759 in
    let low : bit_and n 2146926583 ≡ x * 65536 + y = parts n 32759 32759 (omega arith) in
    let less : 4294049777 - bit_and n 2146926583 ≡ (65521 - x) * 65536 + (65521 - y) = omega (arith, low, hx, hy) in
    let p : ℕ = bit_and (b n) (65521 - x) in
    let r : ℕ = bit_and (f n) (65521 - y) in
    let hr : r ≤ 65521 - y = and_le_r (f n) (65521 - y) in
    let both : bit_and n (4294049777 - bit_and n 2146926583) ≡ p * 65536 + r = ap (bit_and n) less ∙ parts n (65521 - x) (65521 - y) (omega arith) in
    let top : bit_and (p * 2 ^ 16 + r) (32768 * 2 ^ 16 + 32768) ≡ bit_and p 32768 * 2 ^ 16 + bit_and r 32768 = and_block 16 p 32768 r 32768 (omega (arith, hr)) (omega arith) in
    let bp : bit_and p 32768 ≡ bit_at p 15 * 32768 = and_pow p 15 in
    let br : bit_and r 32768 ≡ bit_at r 15 * 32768 = and_pow r 15 in
    let mp : bit_at p 15 ≡ min (b n / 32768 % 2) ((65521 - (b n - b n % 16 / 8 * 8) % 32768) / 32768 % 2) = bit_at_and (b n) (65521 - x) 15 ∙ ap (λ (z : ℕ). min (b n / 32768 % 2) ((65521 - z) / 32768 % 2)) (without (b n) (omega arith)) in
    let mr : bit_at r 15 ≡ min (f n / 32768 % 2) ((65521 - (f n - f n % 16 / 8 * 8) % 32768) / 32768 % 2) = bit_at_and (f n) (65521 - y) 15 ∙ ap (λ (z : ℕ). min (f n / 32768 % 2) ((65521 - z) / 32768 % 2)) (without (f n) (omega arith)) in
    let ib = by_bits (b n) (omega arith) (b n - b n % 16 / 8 * 8) refl (bit_at p 15) mp (ltb (b n) 32768) refl (eqb (bit_at p 15) 0) refl in
    let if = by_bits (f n) (omega arith) (f n - f n % 16 / 8 * 8) refl (bit_at r 15) mr (ltb (f n) 32768) refl (eqb (bit_at r 15) 0) refl in
    let whole : bit_and (bit_and n (4294049777 - bit_and n 2146926583)) 2147516416 ≡ bit_at p 15 * 2147483648 + bit_at r 15 * 32768 = ap (λ (z : ℕ). bit_and z 2147516416) both ∙ top ∙ omega (arith, bp, br) in
    by_two (bit_at p 15) (bit_at r 15) (eqb (bit_at p 15) 0) refl (eqb (bit_at r 15) 0) refl ib if c (sym (ap (λ (z : ℕ). eqb z 0) whole) ∙ q)
  where
    by_two : (u v : ℕ) → (d : Bool) → eqb u 0 ≡ d → (e : Bool) → eqb v 0 ≡ e → not d ≡ invalid (b n) → not e ≡ invalid (f n) → (c : Bool) → eqb (u * 2147483648 + v * 32768) 0 ≡ c → not c ≡ either_invalid n
    by_two u v true i true j ib if true k = rw (← if, ← ib) refl
    by_two u v true i true j ib if false k = let z = eqb-false _ 0 k in let s = eqb-true u 0 i in let t = eqb-true v 0 j in absurd (z (omega (arith, s, t)))
    by_two u v false i true j ib if true k = let z = eqb-true _ 0 k in let s = eqb-false u 0 i in absurd (s (omega (arith, z)))
    by_two u v false i true j ib if false k = rw (← if, ← ib) refl
    by_two u v d i false j ib if true k = let z = eqb-true _ 0 k in let s = eqb-false v 0 j in absurd (s (omega (arith, z)))
    by_two u v d i false j ib if false k = rw (← if) refl

either : (x y : Bool) → cond x true y ≡ true → (x ≡ true) ⊎ ((x ≡ false) × (y ≡ true))
either true y e = inl refl
either false y e = inr (refl, e)

pub neither : (x y : Bool) → cond x true y ≡ false → (x ≡ false) × (y ≡ false)
neither true y e = let z : ◌≡◌ {A = ℕ} 0 1 = cc in absurd (omega arith)
neither false y e = (refl, e)

-- a child's word w
module _ (s : List ℕ) (at w : ℕ) (e : w ≡ u16 s at) (fits : w < 65536) (h : at + 2 ≤ length s) where
  below_half : w < 32768 → collision_child_at s at ≡ ok (C.Node w) (at + 2)
  unfolding collision_child_at
  below_half l = rw (i16_is s at h, ← e) (rw (low w16 w l) (simp (le-ltb w 0 (omega arith))))

  above_half : 32768 ≤ w → collision_child_at s at ≡ with_contents (contents_of (65536 - w)) (λ c. ok (C.Contents c) (at + 2))
  unfolding collision_child_at
  above_half l = rw (i16_is s at h, ← e) (simp (le-ltb w 32768 l) (ap (λ k. with_contents k (λ c. ok (C.Contents c) (at + 2))) (rw (le-ltb w 32768 l) at (high_code w16 (omega arith) w (65536 - w) l (omega arith) (omega arith)))))

  bad_case : (b : Bool) → ltb w 32768 ≡ b → (k : Option BspLeafContents) → contents_of (65536 - w) ≡ k → cond b false (is_invalid k) ≡ true → collision_child_at s at ≡ refused 10
  bad_case true q k r t = let z : ◌≡◌ {A = ℕ} 0 1 = cc in absurd (omega arith)
  bad_case false q (Some c) r t = let z : ◌≡◌ {A = ℕ} 0 1 = cc in absurd (omega arith)
  bad_case false q None r t = above_half (ltb-false w 32768 q) ∙ rw r

  pub bad_child : invalid w ≡ true → collision_child_at s at ≡ refused 10
  unfolding invalid
  bad_child t = bad_case (ltb w 32768) refl (contents_of (65536 - w)) refl t

  abbrev pub Child : Type 0
  Child = (ch : BspCollisionNodeChild) × (collision_child_at s at ≡ ok ch (at + 2)) × (clip_child ch ≡ child_of Clip w)

  good_case : (b : Bool) → ltb w 32768 ≡ b → (k : Option BspLeafContents) → contents_of (65536 - w) ≡ k → cond b false (is_invalid k) ≡ false → Child
  good_case true q k r t = (C.Node w, below_half (ltb-true w 32768 q), simp q)
  good_case false q (Some c) r t = (C.Contents c, above_half (ltb-false w 32768 q) ∙ rw r, simp (q, r))
  good_case false q None r t = let z : ◌≡◌ {A = ℕ} 0 1 = cc in absurd (omega arith)

  pub good_child : invalid w ≡ false → Child
  unfolding invalid
  good_child t = good_case (ltb w 32768) refl (contents_of (65536 - w)) refl t

-- the node at a place of the bytes n, which are a part of s
module _ (n s : List ℕ) (a at p f b : ℕ) (w : Within n s a) (h : at + 8 ≤ length n) (is-p : p ≡ u32 n at) where
  room : a + at + 8 ≤ length s
  room = omega (arith, w.inside)

  plane : p ≡ u32 s (a + at)
  plane = is-p ∙ within_u32 n s a w at (omega arith)

  pub bad_plane : 2147483648 ≤ p → Ans.refused 23 ≡ clip_node_here s (a + at)
  unfolding clip_node_here collision_node_at
  bad_plane l = rw (index_not s (a + at) 10 (omega (arith, room)) (rw plane at l))

  -- refused for its plane's number, or for what is read besides
  pub unless_plane : (p < 2147483648 → Ans.refused 23 ≡ clip_node_here s (a + at)) → Ans.refused 23 ≡ clip_node_here s (a + at)
  unless_plane k = by_sign (ltb p 2147483648) refl
    where
      by_sign : (c : Bool) → ltb p 2147483648 ≡ c → Ans.refused 23 ≡ clip_node_here s (a + at)
      by_sign true q = k (ltb-true p 2147483648 q)
      by_sign false q = bad_plane (ltb-false p 2147483648 q)

  module _ (l : p < 2147483648) (is_f : f ≡ u16 n (at + 4)) (fits-f : f < 65536) where
    front : f ≡ u16 s (a + at + 4)
    front = is_f ∙ within_u16 n s a w (at + 4) (omega arith) ∙ ap (u16 s) (omega arith)

    pub bad_front : invalid f ≡ true → Ans.refused 23 ≡ clip_node_here s (a + at)
    unfolding clip_node_here collision_node_at
    bad_front t = rw (index_is s (a + at) 10 (omega (arith, room)) (rw plane at l), bad_child s (a + at + 4) f front fits-f (omega (arith, room)) t)

    module _ (ok_f : invalid f ≡ false) (is_b : b ≡ u16 n (at + 6)) (fits-b : b < 65536) where
      back : b ≡ u16 s (a + at + 6)
      back = is_b ∙ within_u16 n s a w (at + 6) (omega arith) ∙ ap (u16 s) (omega arith)

      back_place : a + at + 4 + 2 ≡ a + at + 6
      back_place = omega arith

      pub bad_back : invalid b ≡ true → Ans.refused 23 ≡ clip_node_here s (a + at)
      unfolding clip_node_here collision_node_at
      bad_back t =
          let g = good_child s (a + at + 4) f front fits-f (omega (arith, room)) ok_f in
          rw (index_is s (a + at) 10 (omega (arith, room)) (rw plane at l), g.1, back_place, bad_child s (a + at + 6) b back fits-b (omega (arith, room)) t)

      pub all_good : (c : ℕ) → Pair n (at + 4) c → invalid b ≡ false → answer (node_of Clip (record { plane = p; both = c })) ≡ clip_node_here s (a + at)
      unfolding clip_node_here collision_node_at
      all_good c is_c t =
          let g = good_child s (a + at + 4) f front fits-f (omega (arith, room)) ok_f in
          let k = good_child s (a + at + 6) b back fits-b (omega (arith, room)) t in
          let x : c % 65536 ≡ f = is_c.0 ∙ sym is_f in
          let y : c / 65536 ≡ b = is_c.1 ∙ ap (u16 n) (omega arith) ∙ sym is_b in
          rw (index_is s (a + at) 10 (omega (arith, room)) (rw plane at l), g.1, back_place, k.1) (rw (g.2, k.2, x, y, plane))

    pub bad_words : b ≡ u16 n (at + 6) → b < 65536 → cond (invalid f) true (invalid b) ≡ true → Ans.refused 23 ≡ clip_node_here s (a + at)
    bad_words is_b fits-b e = by (either (invalid f) (invalid b) e)
      where
        by : (invalid f ≡ true) ⊎ ((invalid f ≡ false) × (invalid b ≡ true)) → Ans.refused 23 ≡ clip_node_here s (a + at)
        by (inl t) = bad_front t
        by (inr t) = bad_back t.0 is_b fits-b t.1
