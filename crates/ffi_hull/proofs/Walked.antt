-- A walk or a trace goes by its own sections and, in a node table, by no bounds: what is left out of the map record and of the hull does
-- not change the table. Assumes nothing.
use Rattle.std.proofs.Common.{Ok, Err, get_or-take, take}
use Rattle.std.specs.Prelude.{Result}
use Rattle.format.specs.Answers.{answer_of}
use Prim.Native.Nat.{ℕ, ◌≤◌}
use mathlib.Core.Path.{◌≡◌, refl, sym, ap, ◌∙◌}
use mathlib.Core.Bool.{Bool, true, false, cond}
use mathlib.Core.List.{List}
use native.Mathlib.Omega.{arith}
use borrow.Author.Tests.{lt-ltb, le-ltb, ltb-false, eqb-true, eqb-false}
use lib.Dec.{eqb, ltb}
use lib.Ieee.{Float}
use lib.ListN.{length, get_or}
use Rattle.format.specs.Answer.{Answer, answer, refused, mapped, then_answer}
use Rattle.format.specs.Refusal.{number_of}
use Rattle.format.specs.declared.contents.BspLeafContents.{BspLeafContents}
use Rattle.format.specs.declared.refusal.Refusal.{Refusal}
use Rattle.format.specs.declared.section.BspData.{BspData}
use Rattle.math.specs.declared.vector.Vector3.{Vector3}
use Rattle.walk.specs.Table.{Table}
use Rattle.words.specs.Words.{Written, given, at_least, map_length, map_of}
use Rattle.nodes.specs.Tables.{End, table_of, leaf_table, file_table}
use Rattle.nodes.specs.Fast as Fast
use Rattle.nodes.specs.Fast.{tables_of}
use Rattle.nodes.proofs.Equal.{table_is, leaves_are}
use Rattle.nodes.specs.declared.table.HullTable.{HullTable}
use Rattle.nodes.specs.declared.table.HullTable.TheVariants.{Render, Clip, Box}
use Rattle.hull.specs.Hull.{hull_table}
use Rattle.hull.specs.declared.collision.BspCollisionHull.{BspCollisionHull}
use Rattle.ffi_hull.specs.Layout.{hull_asked, hull_in, hull_from, node_hull, flat_hull, walked_from, walked_map, asked}

-- ---- the map record

module _ (s ws : List ℕ) where
  same_tables : (tab : HullTable) (a b : Vector3) → tables_of (walked_map ws) tab a b ≡ tables_of (map_of ws) tab a b
  same_tables Render a b = refl
  same_tables Clip a b = refl
  same_tables Box a b = refl

  same_hull_table : (h : BspCollisionHull) → hull_table s (walked_map ws) h ≡ hull_table s (map_of ws) h
  same_hull_table h =
      sym (table_is s (walked_map ws) h.mins h.maxs h.table) ∙ ap (Fast.table s) (same_tables h.table h.mins h.maxs)
      ∙ table_is s (map_of ws) h.mins h.maxs h.table

  pub same_leaf_table : Vector3 → leaf_table s (walked_map ws) ≡ leaf_table s (map_of ws)
  same_leaf_table p =
      sym (leaves_are s (walked_map ws) p p) ∙ ap (Fast.leaves s) (same_tables Render p p) ∙ leaves_are s (map_of ws) p p

-- the sections that a walk or a trace goes by stand in the first 31 words
pub first_words : (ws : List ℕ) → walked_map (take map_length ws) ≡ walked_map ws
first_words ws = simp (
  get_or-take 31 ws 2 0 (omega arith),
  get_or-take 31 ws 3 0 (omega arith),
  get_or-take 31 ws 10 0 (omega arith),
  get_or-take 31 ws 11 0 (omega arith),
  get_or-take 31 ws 18 0 (omega arith),
  get_or-take 31 ws 19 0 (omega arith),
  get_or-take 31 ws 20 0 (omega arith),
  get_or-take 31 ws 21 0 (omega arith),
)

-- ---- the hull

module _ {A : Type 0} (ws : List ℕ) (ask : BspCollisionHull → Answer A) (flat : (b : Bool) → ask (flat_hull b ws) ≡ ask (hull_in (file_table b) ws)) where
  by_tests : (n : ℕ) (a b : Bool) → eqb n 0 ≡ a → eqb n 1 ≡ b
      → then_answer (cond (ltb n 2) (answer (flat_hull (eqb n 0) ws)) (cond (eqb n 2) (answer (hull_in Box ws)) (refused 20))) ask
      ≡ then_answer (cond (eqb n 0) (answer (hull_in Render ws)) (cond (eqb n 1) (answer (hull_in Clip ws)) (cond (eqb n 2) (answer (hull_in Box ws)) (refused 20)))) ask
  by_tests n true b p q = let e = eqb-true n 0 p in rw (lt-ltb n 2 (omega arith), p) (flat true)
  by_tests n false true p q = let e = eqb-true n 1 q in rw (lt-ltb n 2 (omega arith), p, q) (flat false)
  by_tests n false false p q = let x = eqb-false n 0 p in let y = eqb-false n 1 q in rw (le-ltb n 2 (omega (arith, x, y)), p, q)

  as_walked : then_answer (walked_from ws) ask ≡ then_answer (hull_from ws) ask
  unfolding walked_from hull_from
  as_walked = by_tests (get_or ws 0 0) (eqb (get_or ws 0 0) 0) (eqb (get_or ws 0 0) 1) refl refl

table_flat : (s ws : List ℕ) (m : BspData) (b : Bool) → hull_table s m (flat_hull b ws) ≡ hull_table s m (hull_in (file_table b) ws)
unfolding table_of
table_flat s ws m true = refl
table_flat s ws m false = refl

-- a hull over a node table goes by its root alone
pub of_nodes : (s : List ℕ) (m : BspData) (b : Bool) (h : BspCollisionHull) → h.table ≡ file_table b → hull_table s m (node_hull b h.node_id) ≡ hull_table s m h
unfolding table_of
of_nodes s m true h e = rw e refl
of_nodes s m false h e = rw e refl

-- ---- a call over a hull: what f says of an answer is what it says and leaves, and 22 where a list is too short

module _ {A W : Type 0} (f : Answer A → W) (s ms ws : List ℕ) (fs : List Float) (least : ℕ) (out : List ℕ) (words : ℕ) (ask : Table End BspLeafContents → ℕ → Answer A) where
  abbrev its : BspData × BspCollisionHull → Answer A
  its x = ask (hull_table s x.0 x.1) x.1.node_id

  abbrev of_words : Answer A
  of_words = then_answer (hull_from ws) (λ h. ask (hull_table s (map_of ms) h) h.node_id)

  abbrev call : W
  call =
      cond (ltb (length ms) map_length) (f (refused 22)) (cond (ltb (length ws) hull_asked) (f (refused 22))
      (cond (ltb (length fs) least) (f (refused 22)) (cond (ltb (length out) words) (f (refused 22)) (f of_words))))

  with_map : (x : Answer BspCollisionHull) → then_answer (mapped (λ h. (walked_map ms, h)) x) its ≡ then_answer x (λ h. ask (hull_table s (map_of ms) h) h.node_id)
  with_map (answer h) = ap (λ (T : Table End BspLeafContents). ask T h.node_id) (same_hull_table s ms h)
  with_map (refused n) = refl

  same_words : then_answer (mapped (λ h. (walked_map ms, h)) (walked_from ws)) its ≡ of_words
  same_words =
      with_map (walked_from ws)
      ∙ as_walked ws (λ h. ask (hull_table s (map_of ms) h) h.node_id) (λ b. ap (λ (T : Table End BspLeafContents). ask T (get_or ws 1 0)) (table_flat s ws (map_of ms) b))

  by_lengths : (a b c d : Bool) (x : Answer (BspData × BspCollisionHull)) (y : Answer A) → then_answer x its ≡ y
      → f (then_answer (cond a (refused 22) (cond b (refused 22) (cond c (refused 22) (cond d (refused 22) x)))) its)
      ≡ cond a (f (refused 22)) (cond b (f (refused 22)) (cond c (f (refused 22)) (cond d (f (refused 22)) (f y))))
  by_lengths true b c d x y e = refl
  by_lengths false true c d x y e = refl
  by_lengths false false true d x y e = refl
  by_lengths false false false true x y e = refl
  by_lengths false false false false x y e = ap f e

  module _ (r : Result (BspData × BspCollisionHull) Refusal) (is-r : answer_of r ≡ asked ms ws fs least out words) where
    is_call : f (then_answer (answer_of r) its) ≡ call
    unfolding asked
    is_call =
        ap (λ (x : Answer (BspData × BspCollisionHull)). f (then_answer x its)) is-r
        ∙ by_lengths (ltb (length ms) map_length) (ltb (length ws) hull_asked) (ltb (length fs) least) (ltb (length out) words)
        (mapped (λ h. (walked_map ms, h)) (walked_from ws)) of_words same_words

    -- a list is too short, or the words are no hull's
    pub no_hull : (e : Refusal) → r ≡ Err e → (k : ℕ) → k ≡ number_of e → f (refused k) ≡ call
    no_hull e q k is-k =
        ap (λ (n : ℕ). f (refused n)) is-k ∙ ap (λ (x : Result (BspData × BspCollisionHull) Refusal). f (then_answer (answer_of x) its)) (sym q) ∙ is_call

    -- the words are a hull's
    pub the_hull : (m : BspData) (h : BspCollisionHull) → r ≡ Ok (m, h) → f (ask (hull_table s m h) h.node_id) ≡ call
    the_hull m h q = ap (λ (x : Result (BspData × BspCollisionHull) Refusal). f (then_answer (answer_of x) its)) (sym q) ∙ is_call

-- and then there are the words of a map record, and there is room for the words that are asked for
module _ (ms ws : List ℕ) (fs : List Float) (least : ℕ) (out : List ℕ) (words : ℕ) where
  passed : {A : Type 0} (a b c d : Bool) (x : A) (y : Answer A) → cond a (refused 22) (cond b (refused 22) (cond c (refused 22) (cond d (refused 22) y))) ≡ answer x
      → (a ≡ false) × (d ≡ false) × (y ≡ answer x)
  passed true b c d x y e = let z : ◌≡◌ {A = ℕ} 0 1 = cc in absurd (omega arith)
  passed false true c d x y e = let z : ◌≡◌ {A = ℕ} 0 1 = cc in absurd (omega arith)
  passed false false true d x y e = let z : ◌≡◌ {A = ℕ} 0 1 = cc in absurd (omega arith)
  passed false false false true x y e = let z : ◌≡◌ {A = ℕ} 0 1 = cc in absurd (omega arith)
  passed false false false false x y e = (refl, refl, e)

  abbrev map_in : Answer (BspData × BspCollisionHull) → BspData
  map_in (answer x) = x.0
  map_in (refused n) = walked_map ms

  with_its_map : (x : Answer BspCollisionHull) (y : Answer (BspData × BspCollisionHull)) → mapped (λ k. (walked_map ms, k)) x ≡ y → map_in y ≡ walked_map ms
  with_its_map (answer k) y e = ap map_in (sym e)
  with_its_map (refused n) y e = ap map_in (sym e)

  module _ (r : Result (BspData × BspCollisionHull) Refusal) (is-r : answer_of r ≡ asked ms ws fs least out words) (m : BspData) (h : BspCollisionHull) (q : r ≡ Ok (m, h)) where
    all_passed : (ltb (length ms) map_length ≡ false) × (ltb (length out) words ≡ false) × (◌≡◌ {A = Answer (BspData × BspCollisionHull)} (mapped (λ x. (walked_map ms, x)) (walked_from ws)) (answer (m, h)))
    unfolding asked
    all_passed =
        passed (ltb (length ms) map_length) (ltb (length ws) hull_asked) (ltb (length fs) least) (ltb (length out) words) (m, h)
        (mapped (λ x. (walked_map ms, x)) (walked_from ws)) (sym is-r ∙ ap answer_of q)

    pub room : words ≤ length out
    room = ltb-false (length out) words all_passed.1

    pub whole_map : map_length ≤ length ms
    whole_map = ltb-false (length ms) map_length all_passed.0

    pub its_map : m ≡ walked_map ms
    its_map = with_its_map (walked_from ws) (answer (m, h)) all_passed.2

-- ---- a call that asks something of a hull by words: its four lists are long enough

module _ {A : Type 0} (words : A → List ℕ) (ms ws : List ℕ) (fs : List Float) (k d : ℕ) (out : List ℕ) (a : Answer A) where
  pub long_enough : map_length ≤ length ms → hull_asked ≤ length ws → k ≤ length fs → d ≤ length out → (w : Written) → w ≡ given (mapped words a) out
      → w ≡ at_least map_length ms out (at_least hull_asked ws out (at_least k fs out (at_least d out out (given (mapped words a) out))))
  long_enough e f g h w q =
      q ∙ simp (le-ltb (length ms) map_length e, le-ltb (length ws) hull_asked f, le-ltb (length fs) k g, le-ltb (length out) d h)
