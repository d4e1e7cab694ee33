-- What the calls of the requests answer: 0, or one of the refusals that include/bsp29.h lists with each call. Whatever the file, the map words, the hull words,
-- the floats, the numbers and the lent lists are: nothing is assumed of them. Those of the base: served/specs/Refusals.antt.
use Rattle.std.specs.Prelude.{ℕ, List, [], ◌∷◌, ℤ, Float}
use Rattle.format.specs.declared.refusal.Refusal.{Refusal}
use Rattle.format.specs.declared.refusal.Refusal.TheVariants.{NoSuchRecord, ListTooShort, Unreadable, NotPoints, InvalidSizesFile, NotABody, NodeCountOutside, IndexOutsideTable, WalkTooLong, TooDeep}
use Rattle.served.specs.Refusals.{ZeroOr, of_tree_check}
use Rattle.ffi_checked.specs.Calls.{bsp_hull_check}
use Rattle.ffi_sizes.specs.Calls.{bsp_body_sizes, bsp_hull_sized}
use Rattle.ffi_order.specs.Calls.{bsp_order, bsp_order_contents, bsp_order_trace}
use Rattle.ffi_points.specs.Calls.{bsp_contents_points}
use Rattle.ffi_made.specs.Calls.{bsp_made_up}
use Rattle.ffi_place.specs.Calls.{bsp_load_place}

-- 22, 23, 30, 31
abbrev pub of_order_contents : List Refusal
of_order_contents = ListTooShort ∷ Unreadable ∷ IndexOutsideTable ∷ WalkTooLong ∷ []

-- 22, 23, 30, 32
abbrev pub of_order_trace : List Refusal
of_order_trace = ListTooShort ∷ Unreadable ∷ IndexOutsideTable ∷ TooDeep ∷ []

-- 24, 22, 20, 23, 30, 31
abbrev pub of_points : List Refusal
of_points = NotPoints ∷ ListTooShort ∷ NoSuchRecord ∷ Unreadable ∷ IndexOutsideTable ∷ WalkTooLong ∷ []

-- 22, 20, 23
abbrev pub of_hull_sized : List Refusal
of_hull_sized = ListTooShort ∷ NoSuchRecord ∷ Unreadable ∷ []

-- 22, 26, 27
abbrev pub of_body_sizes : List Refusal
of_body_sizes = ListTooShort ∷ InvalidSizesFile ∷ NotABody ∷ []

pub record Refusals (s map : List ℕ) : Type 0 where
  -- 22, 20, 23, 30, 34, 32, as the tree check
  pub hull_check : (hull marks out : List ℕ) → ZeroOr of_tree_check (bsp_hull_check s map hull marks out).status
  pub order : (table root : ℕ) (marks : List ℕ) (list : List ℤ) (out : List ℕ) → ZeroOr of_tree_check (bsp_order s map table root marks list out).status
  pub order_contents : (list : List ℤ) (root : ℕ) (point : List Float) (out : List ℕ) → ZeroOr of_order_contents (bsp_order_contents s map list root point out).status
  pub order_trace : (list : List ℤ) (root : ℕ) (segment : List Float) (out : List ℕ) → ZeroOr of_order_trace (bsp_order_trace s map list root segment out).status
  pub contents_points : (hull : List ℕ) (points : List Float) (list out : List ℕ) → ZeroOr of_points (bsp_contents_points s map hull points list out).status
  pub hull_sized : (sizes : List ℕ) (model i : ℕ) (out : List ℕ) → ZeroOr of_hull_sized (bsp_hull_sized s map sizes model i out).status
  pub body_sizes : (out : List ℕ) → ZeroOr of_body_sizes (bsp_body_sizes s out).status
  pub load_place : (out : List ℕ) → ZeroOr (ListTooShort ∷ []) (bsp_load_place s out).status
  pub made_up : (seed nodes : ℕ) (buffer out : List ℕ) → ZeroOr (NodeCountOutside ∷ ListTooShort ∷ []) (bsp_made_up seed nodes buffer out).status

abbrev pub EveryRefusal : Type 0
EveryRefusal = (s map : List ℕ) → Refusals s map
