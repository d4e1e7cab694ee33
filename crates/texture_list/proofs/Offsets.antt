-- What `search` goes by where an offset of the list is told apart.
-- Assumes nothing.
use Rattle.std.specs.Prelude.{Option, Some, None}
use Prim.Native.Nat.{ℕ, ◌+◌}
use mathlib.Core.Path.{◌≡◌}
use mathlib.Core.List.{List}
use Rattle.format.specs.Step.{Step, ok}
use Rattle.texture_list.specs.List.{texture_at, present_at}

module _ (s : List ℕ) (base end : ℕ) where
  pub present_none : (o : Option ℕ) → o ≡ None → ok tt end ≡ present_at s base end o
  present_none o e = rw e

  pub present_some : (o : Option ℕ) (x : ℕ) (y : Step (Unit {0})) → o ≡ Some x → y ≡ texture_at s (base + x) → y ≡ present_at s base end o
  present_some o x y e h = rw e h

pub ruleset present = (present_none, present_some)
