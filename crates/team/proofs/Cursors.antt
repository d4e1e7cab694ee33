-- A cursor in a row, eight leaves at a time: what a row gives for one group of leaves. Assumes nothing.
use borrow.Author.Tests.{leb-true, leb-false}
use mathlib.Core.Path.{◌≡◌, refl, ◌∙◌}
use mathlib.Core.Bool.{Bool, true, false}
use mathlib.Core.List.{List, []}
use Prim.Native.Nat.{ℕ, ◌+◌, ◌*◌, ◌^◌, ◌<◌, ◌≤◌}
use native.Mathlib.Nat.{zero-mod}
use native.Mathlib.Omega.{arith}
use lib.Dec.{leb}
use lib.ListN.{length, drop, get_or}
use Rattle.format.specs.Answer.{refused}
use Rattle.vis.specs.Row.{before, in_byte, row_from, byte_leaves}
use Rattle.team.specs.SideBySide.{kept_bits}
use Rattle.vis.proofs.SetBits.{none_set}
use Rattle.vis.proofs.Rows.{before_none, ended, cut, skipped, byte}

-- a byte 0 has no leaf
pub no_leaf : (leaves leaf : ℕ) → byte_leaves leaf (kept_bits leaves leaf 0) ≡ []
no_leaf leaves leaf = rw (zero-mod (2 ^ in_byte leaves leaf)) (none_set 8 leaf)

module _ (s : List ℕ) (leaves at group this : ℕ) where
  -- the row from the first cursor is the row from this one, which has not passed the group
  pub record Cursor (next here : ℕ) : Type 0 where
    pub inside : next ≤ length s
    pub small : here ≤ 255 * next
    pub ahead : this ≤ here
    pub same : row_from leaves (1 + 8 * group) (drop at s) ≡ row_from leaves (1 + 8 * here) (drop next s)

  module _ (below : 1 + 8 * this < leaves) (whole : row_from leaves (1 + 8 * group) (drop at s) ≡ refused 33 → ⊥) (next here : ℕ) (p : Cursor next here) where
    -- the row has the group's byte or lists none of its leaves
    pub passed_group : (here ≡ this → ⊥)
        → (next ≤ length s) × (here ≤ 255 * next) × (this < here)
        × (row_from leaves (1 + 8 * group) (drop at s) ≡ before (byte_leaves (1 + 8 * this) (kept_bits leaves (1 + 8 * this) 0)) (row_from leaves (1 + 8 * here) (drop next s)))
    passed_group n = (
      p.inside,
      p.small,
      omega (arith, p.ahead),
      rw (no_leaf leaves (1 + 8 * this), before_none) p.same,
    )

    module _ (e : here ≡ this) where
      in_row : 1 + 8 * here < leaves
      in_row = omega arith

      pub group_byte : next < length s
      group_byte = go (leb (length s) next) refl
        where
          go : (t : Bool) → leb (length s) next ≡ t → next < length s
          go true q = absurd (whole (p.same ∙ ended leaves (1 + 8 * here) s next in_row (leb-true _ _ q)))
          go false q = leb-false _ _ q

      pub group_follower : get_or s next 0 ≡ 0 → next + 1 < length s
      group_follower z = go (leb (length s) (next + 1)) refl
        where
          go : (t : Bool) → leb (length s) (next + 1) ≡ t → next + 1 < length s
          go true q = absurd (whole (p.same ∙ cut leaves (1 + 8 * here) s next in_row group_byte z (leb-true _ _ q)))
          go false q = leb-false _ _ q

      pub taken_byte : (get_or s next 0 ≡ 0 → ⊥)
          → (next + 1 ≤ length s) × (here + 1 ≤ 255 * (next + 1)) × (this < here + 1)
          × (row_from leaves (1 + 8 * group) (drop at s)
          ≡ before (byte_leaves (1 + 8 * this) (kept_bits leaves (1 + 8 * this) (get_or s next 0))) (row_from leaves (1 + 8 * (here + 1)) (drop (next + 1) s)))
      taken_byte z =
          let k : next < length s = group_byte in
          let m : 1 + 8 * here + 8 ≡ 1 + 8 * (here + 1) = omega arith in
          let b = rw m at (byte leaves (1 + 8 * here) s next in_row k z) in
          (omega arith, omega (arith, p.small), omega arith, rw (← e) (p.same ∙ b))

      pub skipped_groups : get_or s next 0 ≡ 0 → get_or s (next + 1) 0 < 256 → Cursor (next + 1 + 1) (here + get_or s (next + 1) 0)
      skipped_groups z b =
          let k : next + 1 < length s = group_follower z in
          let m : 1 + 8 * here + 8 * get_or s (next + 1) 0 ≡ 1 + 8 * (here + get_or s (next + 1) 0) = omega arith in
          record {
            inside = omega arith;
            small = omega (arith, p.small);
            ahead = omega (arith, p.ahead);
            same = p.same ∙ (rw m at (skipped leaves (1 + 8 * here) s next in_row k z));
          }
