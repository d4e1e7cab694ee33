-- `set_bits` meets its contract: one law says what each entry of the table is. Assumes nothing.
use borrow.Author.Rules.{rules}
use mathlib.Core.Path.{◌≡◌, ap, ◌∙◌}
use mathlib.Core.List.{List}
use Prim.Native.Nat.{ℕ, zero, suc, ◌+◌, ◌<◌}
use native.Mathlib.Nat.{add-zero, zero-add}
use native.Mathlib.Omega.{arith}
use lib.Count.{ones_in, ones}
use lib.ListN.{get_or}
use Rattle.vis.specs.Counts.{counts}
use Rattle.vis.proofs.SetBits.{ones_in_lem}
use Rattle.vis.proofs.ones.set_bits.Goals as goal

entry : (n byte k : ℕ) → k < n → get_or (counts n byte) k 0 ≡ ones_in 8 (byte + k)
unfolding counts
entry zero byte k h = absurd (omega arith)
entry (suc n) byte zero h = rw (add-zero byte)
entry (suc n) byte (suc k) h =
    let e : suc byte + k ≡ byte + suc k = omega arith in
    entry n (suc byte) k (omega arith) ∙ rw e

at_each : (byte : ℕ) → byte < 256 → get_or (counts 256 0) byte 0 ≡ ones byte
at_each byte h = entry 256 0 byte h ∙ rw (zero-add byte) (ones_in_lem 8 byte h)

pub returns : goal.returns
returns c = ap (λ (t : List ℕ). get_or t c.args.byte 0) c.requires ∙ at_each c.args.byte (search rules)
