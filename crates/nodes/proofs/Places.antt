-- Where a record lies, and that its bytes are there.
-- Assumes nothing.
use Rattle.std.specs.Prelude.{Result, Ok}
use Rattle.format.specs.declared.refusal.Refusal.{Refusal}
use Rattle.std.proofs.Common.{◌≡◌, ℕ, ◌+◌, ◌*◌, ◌<◌, ◌≤◌, Bool, true, false, cond, leb, sym, refl, ap, ◌∙◌, mul-le-mul, arith, le-leb, leb-true}
use Rattle.format.specs.Answers.{answer_of}
use borrow.Author.Tests.{lt-leb}
use Rattle.format.specs.Answer.{answer, refused}
use Rattle.nodes.specs.Fast.{place_in}
use Rattle.nodes.specs.declared.table.Part.{Part}

module _ (p : Part) (size n i : ℕ) where
  pub none : p.count ≤ i → refused 20 ≡ place_in p size n i
  unfolding place_in
  none h = simp (le-leb p.count i h)

  module _ (h : i < p.count) where
    pub unreadable : p.readable ≤ i → refused 23 ≡ place_in p size n i
    unfolding place_in
    unreadable g = simp (lt-leb p.count i h, le-leb p.readable i g)

    module _ (g : i < p.readable) where
      pub inside : p.at + i * size + size ≤ n → answer (p.at + i * size) ≡ place_in p size n i
      unfolding place_in
      inside l = simp (lt-leb p.count i h, lt-leb p.readable i g, le-leb (p.at + i * size + size) n l)

      pub outside : n < p.at + i * size + size → refused 23 ≡ place_in p size n i
      unfolding place_in
      outside l = simp (lt-leb p.count i h, lt-leb p.readable i g, lt-leb (p.at + i * size + size) n l)

  by_tests : (a b c : Bool) (at : ℕ) → leb (p.at + i * size + size) n ≡ c → cond a (refused 20) (cond b (refused 23) (cond c (answer (p.at + i * size)) (refused 23))) ≡ answer at → at + size ≤ n
  by_tests true b c at q e = let z : ◌≡◌ {A = ℕ} 0 1 = cc in absurd (omega arith)
  by_tests false true c at q e = let z : ◌≡◌ {A = ℕ} 0 1 = cc in absurd (omega arith)
  by_tests false false false at q e = let z : ◌≡◌ {A = ℕ} 0 1 = cc in absurd (omega arith)
  by_tests false false true at q e =
      let z : p.at + i * size ≡ at = cc in
      rw (← z) (leb-true (p.at + i * size + size) n q)

  -- a place that was given lies within the bytes
  pub within : (r : Result ℕ Refusal) (at : ℕ) → answer_of r ≡ place_in p size n i → r ≡ Ok at → at + size ≤ n
  unfolding place_in
  within r at e q = by_tests (leb p.count i) (leb p.readable i) (leb (p.at + i * size + size) n) at refl (sym e ∙ ap answer_of q)

-- no product of an index and a size wraps
pub small : (i size : ℕ) → i < 4294967296 → size < 256 → i * size ≤ 4294967296 * 256
small i size h g = mul-le-mul {n₁ = i} {m₁ = size} {n₂ = 4294967296} {m₂ = 256} (omega arith) (omega arith)
