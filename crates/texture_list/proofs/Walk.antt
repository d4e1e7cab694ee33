-- The loop over the list of textures: what is left after i of n textures is one texture and what is left after it.
-- Assumes nothing.
use Rattle.std.specs.Prelude.{ℕ, suc, ◌+◌, ◌-◌, ◌*◌, ◌<◌, ◌≤◌, ◌≡◌, List, Result}
use Rattle.std.specs.Result.{IsErrAnd}
use Rattle.std.proofs.Common.{arith, ap}
use Rattle.format.specs.Step.{ok, refused}
use Rattle.format.specs.Refusal.{number_of}
use Rattle.format.specs.declared.refusal.Refusal.{Refusal}
use Rattle.format.proofs.Answers.{handed_on}
use Rattle.sections.specs.Answers.{position_step}
use Rattle.texture_list.specs.List.{listed_at, listed}

pub handed_position : (q : Result ℕ Refusal) (e : Refusal) → IsErrAnd q (λ d. d ≡ e) → position_step q ≡ refused (number_of e)
handed_position q e h = ap position_step (handed_on h)

module _ (s : List ℕ) (base n i end : ℕ) where
  pub all_listed : n ≤ i → listed s base (n - i) (base + 4 + 4 * i) end ≡ ok tt end
  unfolding listed
  all_listed h = let z : n - i ≡ 0 = omega arith in rw z

  module _ (h : i < n) where
    left : n - i ≡ suc (n - (i + 1))
    left = omega arith

    pub one_listed : (q : ℕ) → listed_at s base (base + 4 + 4 * i) end ≡ ok tt q
        → listed s base (n - i) (base + 4 + 4 * i) end ≡ listed s base (n - (i + 1)) (base + 4 + 4 * (i + 1)) q
    unfolding listed
    one_listed q e = let z : base + 4 + 4 * (i + 1) ≡ base + 4 + 4 * i + 4 = omega arith in rw (left, e, z)

    pub none_listed : (k : ℕ) → listed_at s base (base + 4 + 4 * i) end ≡ refused k → listed s base (n - i) (base + 4 + 4 * i) end ≡ refused k
    unfolding listed
    none_listed k e = rw (left, e)
