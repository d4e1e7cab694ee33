-- No answer and no refusal depends on the size of a hull's tree (specs/TreeSizes.antt). Assumes nothing.
use Prim.Native.Nat.{ℕ, ◌<◌}
use native.Mathlib.Omega.{arith}
use mathlib.Core.Path.{◌≡◌, refl, sym, ap, ◌∙◌}
use mathlib.Core.Bool.{Bool, true, false}
use mathlib.Core.List.{List}
use borrow.Author.Tests.{ltb-true, ltb-false, le-ltb}
use lib.Dec.{ltb}
use lib.ListN.{length, take, get_or}
use lib.Seq.{get_or-take, length-take-le, take_all}
use Rattle.hull.specs.Hull.{hull_table}
use Rattle.hull.proofs.Sizes.{same_table, same_check}
use Rattle.ffi_hull.specs.Layout.{hull_asked, hull_from}
use Rattle.ffi_walks.specs.Calls.{bsp_contents}
use Rattle.ffi_traces.specs.Calls.{bsp_trace}
use Rattle.ffi_entered.specs.Calls.{bsp_contents_nodes, bsp_trace_nodes}
use Rattle.ffi_checked.specs.Calls.{bsp_hull_check}
use Rattle.served_requests.specs.TreeSizes.{CoreCalls, CallsForC}

-- ---- the calls of the core

pub core_calls : CoreCalls
core_calls s m a b e =
    let t : hull_table s m a ≡ hull_table s m b = same_table s m a b e in
    record {
      contents = λ p. rw (t, e.same_root);
      trace = λ start end. rw (t, e.same_root);
      nodes_to_point = λ p list. rw (t, e.same_root);
      nodes_of_trace = λ start end list. rw (t, e.same_root);
      check = λ marks. same_check s m a b marks e;
    }

-- ---- the calls for C

-- the front of a list is as short as the list
as_short : (n : ℕ) (l : List ℕ) → ltb (length (take n l)) n ≡ ltb (length l) n
as_short n l = go (ltb (length l) n) refl
  where
    go : (b : Bool) → ltb (length l) n ≡ b → ltb (length (take n l)) n ≡ ltb (length l) n
    go true p = let q : length l < n = ltb-true _ _ p in ap (λ (x : List ℕ). ltb (length x) n) (take_all n l (omega arith))
    go false p = let q : length (take n l) ≡ n = length-take-le n l (ltb-false _ _ p) in le-ltb (length (take n l)) n (omega arith) ∙ sym p

module _ (h k : List ℕ) (e : take hull_asked h ≡ take hull_asked k) where
  word : (i : ℕ) → i < hull_asked → get_or h i 0 ≡ get_or k i 0
  word i l = sym (get_or-take hull_asked h i 0 l) ∙ ap (λ (ws : List ℕ). get_or ws i 0) e ∙ get_or-take hull_asked k i 0 l

  short : ltb (length h) hull_asked ≡ ltb (length k) hull_asked
  short = sym (as_short hull_asked h) ∙ ap (λ (ws : List ℕ). ltb (length ws) hull_asked) e ∙ as_short hull_asked k

  from : hull_from h ≡ hull_from k
  unfolding hull_from
  from =
      simp (
        word 0 (omega arith),
        word 1 (omega arith),
        word 2 (omega arith),
        word 3 (omega arith),
        word 4 (omega arith),
        word 5 (omega arith),
        word 6 (omega arith),
        word 7 (omega arith),
        word 8 (omega arith),
      )

pub calls_for_c : CallsForC
unfolding bsp_contents bsp_trace bsp_contents_nodes bsp_trace_nodes bsp_hull_check
calls_for_c s m h k e = record {
  contents = λ point out. rw (short h k e, from h k e);
  trace = λ segment out. rw (short h k e, from h k e);
  contents_nodes = λ point list out. rw (short h k e, from h k e);
  trace_nodes = λ segment list out. rw (short h k e, from h k e);
  hull_check = λ marks out. rw (short h k e, from h k e);
}
