-- The records of a made-up map as words, as the code writes them.
-- Assumes nothing.
use Prim.Native.Nat.{ℕ, suc, ◌+◌, ◌*◌, ◌-◌, ◌/◌, ◌%◌, ◌^◌, ◌<◌, ◌≤◌}
use mathlib.Core.Path.{◌≡◌, refl, sym, ap, ◌∙◌}
use mathlib.Core.Bool.{Bool, true, false, cond}
use mathlib.Core.List.{List, [], ◌∷◌, ◌++◌}
use native.Mathlib.Nat.{add-mul-div_right, add-mul-mod_self_right}
use native.Mathlib.Omega.{arith}
use lib.Dec.{ltb, leb, eqb, lit<}
use lib.IntN.{ℤ, pos, negsuc, ◌-ℤ◌}
use lib.Ieee.{to_bits, binary32}
use mir.Syntax.{w16}
use mir.Val.{SFits, of_z, to_z}
use mir.ValLaws.{to_z_pos}
use mir.Facts.{to_z-of_z}
use Rattle.written.specs.Bytes.{u16, u32, i16}
use Rattle.made.specs.Map.{distance_of, Side, node, solid, empty, front_of, back_of}
use Rattle.made.specs.File.{zeros, made_map, header, plane, render_child, clip_child, render_node, clip_node, leaf, leaves, model}
use Rattle.made.specs.Writing.{words_of, side_word}

-- two numbers of 16 bits as one of 32
pair : (a b : ℕ) → a < 65536 → b < 65536 → u32 (a + b * 65536) ≡ u16 a ++ u16 b
pair a b h k =
    let z : a + b * 65536 ≡ a + b * 256 * 256 = omega arith in
    let p : (a + b * 256 * 256) % 256 ≡ a % 256 = add-mul-mod_self_right a (b * 256) 256 in
    let q : (a + b * 256 * 256) / 256 ≡ a / 256 + b * 256 = add-mul-div_right a (b * 256) (lit< tt) in
    let r : (a / 256 + b * 256) % 256 ≡ a / 256 % 256 = add-mul-mod_self_right (a / 256) b 256 in
    let t : (a / 256 + b * 256) / 256 ≡ b = omega arith in
    rw (z, p, q, r, t) refl

-- a child's 16 bits
render_word : (x : Side) → of_z w16 (render_child x) ≡ side_word 65535 65534 x
render_word (node k) = refl
render_word solid = refl
render_word empty = refl

clip_word : (x : Side) → of_z w16 (clip_child x) ≡ side_word 65534 65535 x
clip_word (node k) = refl
clip_word solid = refl
clip_word empty = refl

module _ (s e : ℕ) (hs : s < 65536) (he : e < 65536) where
  pub front_small : (number : ℕ) → side_word s e (front_of number) < 65536
  front_small number = by (leb (2 ^ 31) number)
    where
      by : (t : Bool) → side_word s e (cond t solid empty) < 65536
      by true = hs
      by false = he

  pub back_small : (n i : ℕ) → i < n → n ≤ 500 → side_word s e (back_of n i) < 65536
  back_small n i h k = by (eqb (i + 1) n)
    where
      by : (t : Bool) → side_word s e (cond t empty (node (i + 1))) < 65536
      by true = he
      by false = omega arith

pub plane_words_lem : (number d : ℕ) → d ≡ to_bits binary32 (distance_of number) → words_of (0 ∷ 0 ∷ 0 ∷ d ∷ number % 3 ∷ []) ≡ plane number
unfolding plane
plane_words_lem number d e = rw e refl

module _ (n i number : ℕ) (h : i < n) (k : n ≤ 500) where
  -- both children, whose 16 bits are those of `coded`
  both : (coded : Side → ℤ) (s e : ℕ) → s < 65536 → e < 65536 → ((x : Side) → of_z w16 (coded x) ≡ side_word s e x)
      → (w : ℕ) → w ≡ side_word s e (front_of number) + side_word s e (back_of n i) * 65536 → u32 w ≡ i16 (coded (front_of number)) ++ i16 (coded (back_of n i))
  both coded s e hs he c w q =
      ap u32 q
      ∙ pair (side_word s e (front_of number)) (side_word s e (back_of n i)) (front_small s e hs he number) (back_small s e hs he n i h k)
      ∙ sym (rw (c (front_of number), c (back_of n i)) refl)

  pub render_words : (w : ℕ) → w ≡ side_word 65535 65534 (front_of number) + side_word 65535 65534 (back_of n i) * 65536
      → words_of (i ∷ w ∷ 0 ∷ 0 ∷ 0 ∷ 0 ∷ []) ≡ render_node n i number
  unfolding render_node
  render_words w e = ap (λ (r : List ℕ). u32 i ++ (r ++ zeros 16)) (both render_child 65535 65534 (omega arith) (omega arith) render_word w e)

  pub clip_words : (w : ℕ) → w ≡ side_word 65534 65535 (front_of number) + side_word 65534 65535 (back_of n i) * 65536
      → words_of (i ∷ w ∷ []) ≡ clip_node n i number
  unfolding clip_node
  clip_words w e = ap (λ (r : List ℕ). u32 i ++ r) (both clip_child 65534 65535 (omega arith) (omega arith) clip_word w e)

pub leaf_words_lem : words_of (4294967294 ∷ 4294967295 ∷ 0 ∷ 0 ∷ 0 ∷ 0 ∷ 0 ∷ 4294967295 ∷ 4294967295 ∷ 0 ∷ 0 ∷ 0 ∷ 0 ∷ 0 ∷ []) ≡ leaves
unfolding leaves leaf
leaf_words_lem = refl

pub model_words_lem : words_of (0 ∷ 0 ∷ 0 ∷ 0 ∷ 0 ∷ 0 ∷ 0 ∷ 0 ∷ 0 ∷ 0 ∷ 0 ∷ 0 ∷ 0 ∷ 1 ∷ 0 ∷ 0 ∷ []) ≡ model
unfolding model
model_words_lem = refl

-- the distance as a number of 16 bits
small : (k : ℕ) → k < 256 → (t : Bool) → ltb k 128 ≡ t → SFits w16 (cond t (negsuc (128 - suc k)) (pos (k - 128)))
small k h true e = record { sfits = omega arith }
small k h false e = record { sfits = omega arith }

pub distance_fits : (k : ℕ) → k < 256 → SFits w16 (to_z w16 k -ℤ pos 128)
distance_fits k h = rw (to_z_pos w16 k (omega arith)) (small k h (ltb k 128) refl)

pub distance_is : (k : ℕ) → k < 256 → to_z w16 (of_z w16 (to_z w16 k -ℤ pos 128)) ≡ pos k -ℤ pos 128
distance_is k h = to_z-of_z (distance_fits k h) ∙ ap (λ (x : ℤ). x -ℤ pos 128) (to_z_pos w16 k (omega arith))

-- the header in three parts: up to the render nodes, up to the leaves, and the rest
abbrev pub first_words : ℕ → List ℕ
first_words n = words_of (29 ∷ 124 ∷ 1 ∷ 125 ∷ n * 20 ∷ (125 + n * 20) ∷ 4 ∷ 0 ∷ 0 ∷ 0 ∷ 0 ∷ (129 + n * 20) ∷ n * 24 ∷ [])

abbrev pub middle_words : ℕ → List ℕ
middle_words n = words_of (0 ∷ 0 ∷ 0 ∷ 0 ∷ 0 ∷ 0 ∷ (129 + n * 44) ∷ n * 8 ∷ (129 + n * 52) ∷ 56 ∷ [])

abbrev pub last_words : ℕ → List ℕ
last_words n = words_of (0 ∷ 0 ∷ 0 ∷ 0 ∷ 0 ∷ 0 ∷ (185 + n * 52) ∷ 64 ∷ [])

pub header_words : (n : ℕ) → (first_words n ++ middle_words n) ++ last_words n ≡ header (made_map n)
unfolding header made_map
header_words n = refl
