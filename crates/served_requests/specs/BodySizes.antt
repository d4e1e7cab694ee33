-- Note 10 about the calls for C: of the hulls that `bsp_hull_sized` writes with any two sizes, `bsp_contents`, `bsp_trace` and `bsp_find_leaf`
-- from the hull's root say and leave the same; and the hull's words are those of `bsp_hull` but for its bounds, words 3 to 8, with the
-- number of nodes and the height, words 9 and 10, among them. proofs/BodySizes.antt proves `SizedCalls`.
use Rattle.std.specs.Prelude.{ℕ, ◌≤◌, List, ◌≡◌, length, take, drop, get_or, Float}
use Rattle.words.specs.Words.{Written}
use Rattle.ffi_hull.specs.Calls.{bsp_hull}
use Rattle.ffi_walks.specs.Calls.{bsp_contents, bsp_find_leaf}
use Rattle.ffi_traces.specs.Calls.{bsp_trace}
use Rattle.ffi_sizes.specs.Layout.{sizes_length}
use Rattle.ffi_sizes.specs.Calls.{bsp_hull_sized}

-- the file s, the map record's words m, the hulls' words h and k
pub record SameFrom (s m h k : List ℕ) : Type 0 where
  pub contents : (point : List Float) (out : List ℕ) → bsp_contents s m h point out ≡ bsp_contents s m k point out
  pub trace : (segment : List Float) (out : List ℕ) → bsp_trace s m h segment out ≡ bsp_trace s m k segment out
  pub find_leaf : (point : List Float) (out : List ℕ) → bsp_find_leaf s m (get_or h 1 0) point out ≡ bsp_find_leaf s m (get_or k 1 0) point out

-- the same number, and the same words before the bounds and behind them
pub record SameButBounds (a b : Written) : Type 0 where
  pub same_status : a.status ≡ b.status
  pub same_front : take 3 a.list ≡ take 3 b.list
  pub same_rest : drop 9 a.list ≡ drop 9 b.list

-- of the model i and the hull j, with the list `out` lent
pub record SizedCalls (s m : List ℕ) (i j : ℕ) (out : List ℕ) : Type 0 where
  pub as_hull : (z : List ℕ) → sizes_length ≤ length z → SameButBounds (bsp_hull s m i j out) (bsp_hull_sized s m z i j out)
  pub any_sizes : (y z : List ℕ) → sizes_length ≤ length y → sizes_length ≤ length z
      → SameFrom s m (bsp_hull_sized s m y i j out).list (bsp_hull_sized s m z i j out).list
