-- What the calls answer: 0, or one of the refusals that include/bsp29.h lists with each call. Whatever the file, the map words, the hull words, the floats, the
-- numbers and the lent lists are: nothing is assumed of them. So no call gives 19, the panic inside the Rust's `join`.
use Rattle.std.specs.Prelude.{ℕ, List, [], ◌∷◌, ◌⊎◌, ◌≡◌, Float}
use Rattle.format.specs.declared.refusal.Refusal.{Refusal}
use Rattle.format.specs.declared.refusal.Refusal.TheVariants.{NoSuchRecord, ListTooShort, Unreadable, IndexOutsideTable, WalkTooLong, TooDeep, ReachedTwice}
use Rattle.loaded.specs.Refusals.{OneOf, OfLoading}
use Rattle.served.specs.Cited.{bsp_load, bsp_tree_check, bsp_contents, bsp_find_leaf, bsp_trace, bsp_contents_nodes, bsp_find_leaf_nodes, bsp_trace_nodes}

-- 0, or the number of one of these refusals
abbrev pub ZeroOr : List Refusal → ℕ → Type 0
ZeroOr es n = (n ≡ 0) ⊎ OneOf es n

-- 0, 22, or 1 to 15
abbrev pub OfLoad : ℕ → Type 0
OfLoad n = ZeroOr (ListTooShort ∷ []) n ⊎ OfLoading n

-- 22, 20, 23, 30, 31
abbrev pub of_contents : List Refusal
of_contents = ListTooShort ∷ NoSuchRecord ∷ Unreadable ∷ IndexOutsideTable ∷ WalkTooLong ∷ []

-- 22, 23, 30, 31
abbrev pub of_find_leaf : List Refusal
of_find_leaf = ListTooShort ∷ Unreadable ∷ IndexOutsideTable ∷ WalkTooLong ∷ []

-- 22, 20, 23, 30, 32
abbrev pub of_trace : List Refusal
of_trace = ListTooShort ∷ NoSuchRecord ∷ Unreadable ∷ IndexOutsideTable ∷ TooDeep ∷ []

-- 22, 20, 23, 30, 34, 32
abbrev pub of_tree_check : List Refusal
of_tree_check = ListTooShort ∷ NoSuchRecord ∷ Unreadable ∷ IndexOutsideTable ∷ ReachedTwice ∷ TooDeep ∷ []

pub record Refusals (s map : List ℕ) : Type 0 where
  pub load : OfLoad (bsp_load s map).status
  pub tree_check : (table root : ℕ) (marks out : List ℕ) → ZeroOr of_tree_check (bsp_tree_check s map table root marks out).status
  pub contents : (hull : List ℕ) (point : List Float) (out : List ℕ) → ZeroOr of_contents (bsp_contents s map hull point out).status
  pub find_leaf : (root : ℕ) (point : List Float) (out : List ℕ) → ZeroOr of_find_leaf (bsp_find_leaf s map root point out).status
  pub trace : (hull : List ℕ) (segment : List Float) (out : List ℕ) → ZeroOr of_trace (bsp_trace s map hull segment out).status
  -- the calls that list the nodes: the same
  pub contents_nodes : (hull : List ℕ) (point : List Float) (list out : List ℕ) → ZeroOr of_contents (bsp_contents_nodes s map hull point list out).status
  pub find_leaf_nodes : (root : ℕ) (point : List Float) (list out : List ℕ) → ZeroOr of_find_leaf (bsp_find_leaf_nodes s map root point list out).status
  pub trace_nodes : (hull : List ℕ) (segment : List Float) (list out : List ℕ) → ZeroOr of_trace (bsp_trace_nodes s map hull segment list out).status

abbrev pub EveryRefusal : Type 0
EveryRefusal = (s map : List ℕ) → Refusals s map
