-- The words of a hull with any sizes are those of `bsp_hull` but for its bounds, and no answer goes by these (specs/BodySizes.antt).
-- Assumes nothing.
use Prim.Native.Nat.{ℕ, zero, suc, ◌<◌, ◌≤◌}
use native.Mathlib.Omega.{arith}
use mathlib.Core.Path.{◌≡◌, refl, sym, ap, ◌∙◌}
use mathlib.Core.Bool.{Bool, true, false, cond, false≢true}
use mathlib.Core.List.{List}
use borrow.Author.Tests.{le-ltb, eqb-false}
use lib.Dec.{eqb, ltb}
use lib.ListN.{length, get_or}
use Rattle.format.specs.Answer.{Answer, answer, refused, mapped, then_answer}
use Rattle.format.specs.declared.contents.BspLeafContents.{BspLeafContents}
use Rattle.walk.specs.Table.{Table}
use Rattle.walk.specs.Walk.{with_visits, point_walk}
use Rattle.walk.specs.Tracing as Tracing
use Rattle.words.specs.Words.{Written, written, put, given, map_of}
use Rattle.nodes.specs.Tables.{End, table_of, is_box}
use Rattle.nodes.specs.declared.table.HullTable.{HullTable}
use Rattle.nodes.specs.declared.table.HullTable.TheVariants.{Render, Clip, Box}
use Rattle.sizes.specs.declared.BodySizes.{BodySizes}
use Rattle.hull.specs.Hull as Hull
use Rattle.hull.specs.Hull.{hull_table}
use Rattle.hull.specs.declared.collision.BspCollisionHull.{BspCollisionHull}
use Rattle.sized_hulls.specs.Sized.{with_body, hull_sized}
use Rattle.sized_hulls.proofs.AnySizes.{no_box}
use Rattle.ffi_hull.specs.Layout.{hull_length, point_at, hull_in, hull_from, table_word, hull_words}
use Rattle.ffi_hull.specs.Calls.{bsp_hull}
use Rattle.ffi_walks.specs.Calls.{bsp_contents, bsp_find_leaf}
use Rattle.ffi_traces.specs.Calls.{bsp_trace}
use Rattle.ffi_sizes.specs.Layout.{sizes_length, sizes_from}
use Rattle.ffi_sizes.specs.Calls.{bsp_hull_sized}
use Rattle.served_requests.specs.BodySizes.{SameFrom, SameButBounds, SizedCalls}

-- ---- what is asked of words that name no box

module _ {A : Type 0} (s m h k : List ℕ) (ask : Table End BspLeafContents → ℕ → Answer A) (root : get_or h 1 0 ≡ get_or k 1 0) where
  abbrev of : BspCollisionHull → Answer A
  of b = ask (hull_table s (map_of m) b) b.node_id

  by_tests : (n : ℕ) (a b : Bool) → eqb n 0 ≡ a → eqb n 1 ≡ b → n < 2
      → then_answer (cond a (answer (hull_in Render h)) (cond b (answer (hull_in Clip h)) (cond (eqb n 2) (answer (hull_in Box h)) (refused 20)))) of
      ≡ then_answer (cond a (answer (hull_in Render k)) (cond b (answer (hull_in Clip k)) (cond (eqb n 2) (answer (hull_in Box k)) (refused 20)))) of
  unfolding table_of
  by_tests n true b p q l = ap (λ (r : ℕ). ask (table_of s (map_of m) Render (hull_in Render h).mins (hull_in Render h).maxs) r) root
  by_tests n false true p q l = ap (λ (r : ℕ). ask (table_of s (map_of m) Clip (hull_in Clip h).mins (hull_in Clip h).maxs) r) root
  by_tests n false false p q l = let x = eqb-false n 0 p in let y = eqb-false n 1 q in absurd (omega (arith, x, y, l))

  same_asked : get_or h 0 0 ≡ get_or k 0 0 → get_or h 0 0 < 2 → then_answer (hull_from h) of ≡ then_answer (hull_from k) of
  unfolding hull_from
  same_asked t l = rw (← t) (by_tests (get_or h 0 0) (eqb (get_or h 0 0) 0) (eqb (get_or h 0 0) 1) refl refl l)

same_from : (s m h k : List ℕ) → length h ≡ length k → get_or h 0 0 ≡ get_or k 0 0 → get_or h 1 0 ≡ get_or k 1 0 → get_or h 0 0 < 2 → SameFrom s m h k
unfolding bsp_contents bsp_trace bsp_find_leaf
same_from s m h k n t r l = record {
  contents = λ point out. rw (n, same_asked s m h k (λ T root. with_visits (point_walk T root (point_at point 0))) r t l);
  trace = λ segment out. rw (n, same_asked s m h k (λ T root. with_visits (Tracing.trace T root (point_at segment 0) (point_at segment 3))) r t l);
  find_leaf = λ point out. rw r;
}

same_list : (s m h k : List ℕ) → h ≡ k → SameFrom s m h k
same_list s m h k e = record { contents = λ point out. rw e; trace = λ segment out. rw e; find_leaf = λ point out. rw e }

-- ---- the words of a hull

no_box_word : (t : HullTable) → is_box t ≡ false → table_word t < 2
no_box_word Render e = omega arith
no_box_word Clip e = omega arith
no_box_word Box e = absurd (false≢true (sym e))

module _ (z : BodySizes) (out : List ℕ) (h : BspCollisionHull) where
  same_length : (j : ℕ) → length (put (hull_words (with_body z j h)) out) ≡ length (put (hull_words h) out)
  same_length zero = refl
  same_length (suc zero) = refl
  same_length (suc (suc j)) = refl

  same_table_word : (j : ℕ) → get_or (put (hull_words (with_body z j h)) out) 0 0 ≡ table_word h.table
  same_table_word zero = refl
  same_table_word (suc zero) = refl
  same_table_word (suc (suc j)) = refl

  same_root_word : (j : ℕ) → get_or (put (hull_words (with_body z j h)) out) 1 0 ≡ h.node_id
  same_root_word zero = refl
  same_root_word (suc zero) = refl
  same_root_word (suc (suc j)) = refl

  but_bounds : (j : ℕ) → SameButBounds (written 0 (put (hull_words h) out)) (written 0 (put (hull_words (with_body z j h)) out))
  but_bounds zero = record { same_status = refl; same_front = refl; same_rest = refl }
  but_bounds (suc zero) = record { same_status = refl; same_front = refl; same_rest = refl }
  but_bounds (suc (suc j)) = record { same_status = refl; same_front = refl; same_rest = refl }

all_same : (a : Written) → SameButBounds a a
all_same a = record { same_status = refl; same_front = refl; same_rest = refl }

-- ---- the calls

module _ (s m : List ℕ) (i j : ℕ) (out : List ℕ) where
  -- what the call leaves, where the sizes are long enough
  abbrev leaves : BodySizes → Bool → Bool → Answer BspCollisionHull → Written
  leaves z a b x = cond a (written 22 out) (cond b (written 22 out) (given (mapped hull_words (mapped (with_body z j) x)) out))

  is_left : (z : List ℕ) → sizes_length ≤ length z → bsp_hull_sized s m z i j out ≡ leaves (sizes_from z) (ltb (length m) 31) (ltb (length out) hull_length) (Hull.hull s (map_of m) i j)
  unfolding bsp_hull_sized hull_sized
  is_left z l = rw (le-ltb (length z) sizes_length l) refl

  as_hull : (z : BodySizes) (a b : Bool) (x : Answer BspCollisionHull) → SameButBounds (cond a (written 22 out) (cond b (written 22 out) (given (mapped hull_words x) out))) (leaves z a b x)
  as_hull z true b x = all_same (written 22 out)
  as_hull z false true x = all_same (written 22 out)
  as_hull z false false (answer h) = but_bounds z out h j
  as_hull z false false (refused n) = all_same (written n out)

  any_left : (y z : BodySizes) (a b : Bool) (x : Answer BspCollisionHull) → ((h : BspCollisionHull) → x ≡ answer h → is_box h.table ≡ false)
      → SameFrom s m (leaves y a b x).list (leaves z a b x).list
  any_left y z true b x f = same_list s m out out refl
  any_left y z false true x f = same_list s m out out refl
  any_left y z false false (answer h) f =
      same_from s m (put (hull_words (with_body y j h)) out) (put (hull_words (with_body z j h)) out)
      (same_length y out h j ∙ sym (same_length z out h j))
      (same_table_word y out h j ∙ sym (same_table_word z out h j))
      (same_root_word y out h j ∙ sym (same_root_word z out h j))
      (rw (same_table_word y out h j) (no_box_word h.table (f h refl)))
  any_left y z false false (refused n) f = same_list s m out out refl

  pub sized_calls : SizedCalls s m i j out
  unfolding bsp_hull
  sized_calls = record {
    as_hull = λ z l. rw (is_left z l) (as_hull (sizes_from z) (ltb (length m) 31) (ltb (length out) hull_length) (Hull.hull s (map_of m) i j));
    any_sizes = λ y z p q. rw (is_left y p, is_left z q) (any_left (sizes_from y) (sizes_from z) (ltb (length m) 31) (ltb (length out) hull_length) (Hull.hull s (map_of m) i j) (no_box s (map_of m) i j));
  }
