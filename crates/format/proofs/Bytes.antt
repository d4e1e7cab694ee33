-- The bytes of a field: what `first_chunk` gave, and the value that the std makes of them.
-- Assumes nothing.
use Rattle.std.specs.Prelude.{ℕ, ◌+◌, ◌*◌, ◌<◌, ◌≤◌, ◌≡◌, List, get_or, take, drop, length, slice_index, Result}
use Rattle.std.specs.Result.{IsErrAnd}
use Rattle.std.proofs.Common.{ap, ◌∙◌, arith}
use Rattle.std.proofs.lemmas.List.{get_or-take, get_or-drop}
use Rattle.format.proofs.Answers.{handed_on}
use Rattle.format.specs.Step.{ok}
use Rattle.format.specs.Field.{field}
use Rattle.format.specs.Answers.{step_of}
use Rattle.format.specs.declared.refusal.Refusal.{Refusal}
use Rattle.format.specs.declared.refusal.Refusal.TheVariants.{EndOfFile}
use Rattle.format.proofs.Fields.{ends, reads}

-- byte i of the n that stand at a position
byte_of : (s : List ℕ) (at n : ℕ) (b : List ℕ) → b ≡ take n (drop at s) → (i j : ℕ) → i < n → at + i ≡ j → slice_index b i ≡ get_or s j 0
byte_of s at n b e i j h q = ap (λ x. slice_index x i) e ∙ get_or-take n (drop at s) i 0 h ∙ get_or-drop at s i 0 ∙ ap (λ k. get_or s k 0) q

module _ (s : List ℕ) (at : ℕ) (b : List ℕ) (v : ℕ) where
  pub one : b ≡ take 1 (drop at s) → v ≡ slice_index b 0 → v ≡ get_or s at 0
  one e h = h ∙ byte_of s at 1 b e 0 at (omega arith) (omega arith)

  pub two : b ≡ take 2 (drop at s) → v ≡ slice_index b 0 + slice_index b 1 * 256 → v ≡ get_or s at 0 + 256 * get_or s (at + 1) 0
  two e h =
      let b0 = byte_of s at 2 b e 0 at (omega arith) (omega arith) in
      let b1 = byte_of s at 2 b e 1 (at + 1) (omega arith) (omega arith) in
      omega (arith, h, b0, b1)

  pub four : b ≡ take 4 (drop at s) → v ≡ slice_index b 0 + slice_index b 1 * 256 + slice_index b 2 * 65536 + slice_index b 3 * 16777216
      → v ≡ get_or s at 0 + 256 * get_or s (at + 1) 0 + 65536 * get_or s (at + 2) 0 + 16777216 * get_or s (at + 3) 0
  four e h =
      let b0 = byte_of s at 4 b e 0 at (omega arith) (omega arith) in
      let b1 = byte_of s at 4 b e 1 (at + 1) (omega arith) (omega arith) in
      let b2 = byte_of s at 4 b e 2 (at + 2) (omega arith) (omega arith) in
      let b3 = byte_of s at 4 b e 3 (at + 3) (omega arith) (omega arith) in
      omega (arith, h, b0, b1, b2, b3)

-- the bytes end, and that is what is handed on
pub no_field : {A : Type 0} (k : ℕ) (s : List ℕ) (at : ℕ) (v : A) (e : Refusal) (q : Result (A × ℕ) Refusal)
    → (e ≡ EndOfFile) × (length s < at + k) → IsErrAnd q (λ d. d ≡ e) → step_of q ≡ field k s at v
no_field k s at v e q (i, short) h = rw (handed_on h, i) (ends k s at v short)

-- the bytes are there, and what they stand for is the value
pub a_field : {A : Type 0} (k : ℕ) (s : List ℕ) (at : ℕ) (v w : A) → at + k ≤ length s → v ≡ w → ok v (at + k) ≡ field k s at w
a_field k s at v w h e = rw e (reads k s at w h)
