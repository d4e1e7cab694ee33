-- Bytes that are a part of a file: what stands in them stands in the file.
-- Assumes nothing.
use Rattle.std.proofs.Common.{◌≡◌, ℕ, ◌+◌, ◌*◌, ◌<◌, ◌≤◌, List, length, get_or, take, drop, ap, ◌∙◌, arith, length-drop, length-take-le, get_or-drop, get_or-take}
use Rattle.nodes.specs.Fast.{u16, u32, Pair, plane_here, Within}

-- a number's words
pub u32_pair : (s : List ℕ) (at : ℕ) → u32 s at ≡ u16 s at + 65536 * u16 s (at + 2)
unfolding u16 u32
u32_pair s at =
    let q : at + 2 + 1 ≡ at + 3 = omega arith in
    rw q (omega arith)

pub two_words : (s : List ℕ) (at n : ℕ) → ((i : ℕ) → get_or s i 0 < 256) → n ≡ u32 s at → Pair s at n
unfolding u16
two_words s at n fits e = (omega (arith, e, fits at, fits (at + 1), u32_pair s at), omega (arith, e, fits at, fits (at + 1), u32_pair s at))

pub within_itself : (s : List ℕ) → Within s s 0
within_itself s = record { inside = omega arith; same = λ i h. ap (λ (k : ℕ). get_or s k 0) (omega arith) }

-- what is said of the place 0 + at
pub at_start : {A : Type 0} (f : List ℕ → ℕ → A) (s : List ℕ) (at : ℕ) (x : A) → x ≡ f s (0 + at) → x ≡ f s at
at_start f s at x e = e ∙ ap (f s) (omega arith)

pub part_within : (s : List ℕ) (a m : ℕ) → a + m ≤ length s → Within (take m (drop a s)) s a
part_within s a m h =
    let l : length (take m (drop a s)) ≡ m = length-take-le m (drop a s) (omega (arith, length-drop a s)) in
    record { inside = omega arith; same = λ i g. get_or-take m (drop a s) i 0 (omega arith) ∙ get_or-drop a s i 0 }

module _ (n s : List ℕ) (a : ℕ) (w : Within n s a) where
  -- the byte j places on from i
  byte : (i j : ℕ) → i + j < length n → get_or n (i + j) 0 ≡ get_or s (a + i + j) 0
  byte i j h = w.same (i + j) h ∙ ap (λ (k : ℕ). get_or s k 0) (omega arith)

  pub within_u16 : (i : ℕ) → i + 2 ≤ length n → u16 n i ≡ u16 s (a + i)
  unfolding u16
  within_u16 i h = rw (w.same i (omega arith), byte i 1 (omega arith))

  pub within_u32 : (i : ℕ) → i + 4 ≤ length n → u32 n i ≡ u32 s (a + i)
  unfolding u32
  within_u32 i h = rw (w.same i (omega arith), byte i 1 (omega arith), byte i 2 (omega arith), byte i 3 (omega arith))

  -- the number j places on from at
  number : (at j : ℕ) → at + j + 4 ≤ length n → u32 n (at + j) ≡ u32 s (a + at + j)
  number at j h = within_u32 (at + j) h ∙ ap (u32 s) (omega arith)

  pub plane_within : (at : ℕ) → at + 20 ≤ length n → plane_here n at ≡ plane_here s (a + at)
  unfolding plane_here
  plane_within at h =
      rw (within_u32 at (omega arith), number at 4 (omega arith), number at 8 (omega arith), number at 12 (omega arith), number at 16 (omega arith))

-- the plane of 20 bytes that stand at a place
pub plane_taken : (s : List ℕ) (at : ℕ) → at + 20 ≤ length s → plane_here (take 20 (drop at s)) 0 ≡ plane_here s at
plane_taken s at h =
    let l : length (take 20 (drop at s)) ≡ 20 = length-take-le 20 (drop at s) (omega (arith, length-drop at s)) in
    plane_within (take 20 (drop at s)) s at (part_within s at 20 h) 0 (omega (arith, l)) ∙ ap (plane_here s) (omega arith)
