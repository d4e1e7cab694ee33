-- What is said at once, where the file has all nodes and planes, is what is asked.
-- Assumes nothing.
use Rattle.std.specs.Prelude.{Option, Some, None}
use Rattle.std.proofs.Common.{ne_eqb}
use Prim.Native.Nat.{ℕ, ◌+◌, ◌-◌, ◌*◌, ◌/◌, ◌%◌, ◌<◌, ◌≤◌}
use native.Mathlib.Omega.{arith}
use mathlib.Core.Bool.{Bool, true, false, cond}
use mathlib.Core.List.{List}
use mathlib.Core.Path.{◌≡◌, refl, sym, ap, ◌∙◌}
use borrow.Author.Tests.{lt-ltb, le-ltb}
use lib.ListN.{length}
use Rattle.format.specs.Answer as Ans
use Rattle.format.specs.Answer.{Answer, answer}
use Rattle.format.specs.Contents.{code_of}
use Rattle.format.specs.declared.contents.BspLeafContents.{BspLeafContents}
use Rattle.format.specs.declared.contents.BspLeafContents.TheVariants.{Empty, Solid, Water, Slime, Lava, Sky, Current0, Current90, Current180, Current270, CurrentUp, CurrentDown}
use Rattle.format.specs.declared.section.BspData.{BspData}
use Rattle.math.specs.declared.vector.Vector3.{Vector3}
use Rattle.walk.specs.Table.{Table}
use Rattle.walk.specs.Walk.{with_visits, meet, point_walk}
use Rattle.nodes.specs.Tables.{End, file_table, is_box, leaf_table, table_of}
use Rattle.nodes.specs.Fast as Fast
use Rattle.nodes.specs.Fast.{contents_met, end_of, is_render, tables_of}
use Rattle.nodes.specs.Quick.{code_or, end_and_visits, end_code, or_nothing, quick_answer, quick_walk, tables_by}
use Rattle.nodes.specs.Walks.{are_whole, ends}
use Rattle.nodes.specs.declared.table.HullTable.{HullTable}
use Rattle.nodes.specs.declared.table.HullTable.TheVariants.{Render, Clip, Box}
use Rattle.nodes.specs.declared.table.Tables.{Tables}
use Rattle.nodes.proofs.Equal.{table_is, leaves_are}
use Rattle.nodes.proofs.QuickTables.{walk_said, code_said}
use Rattle.hull.proofs.Ends.{point_refused, point_met, point_unmet}
use Rattle.ffi_walks.specs.Quick.{answered, code_and_visits}

-- ---- a walk to the end that says something, x, or nothing, of the walk y, which meets the end

module _ {A B : Type 0} (f : A → B) (y : Answer A) where
  -- it says nothing
  none : (whole : Bool) (x : Answer (End × ℕ)) → Ans.refused 0 ≡ cond whole (or_nothing x) (Ans.refused 0) → ((n : ℕ) → Ans.refused n ≡ x → Ans.refused n ≡ y) → None ≡ cond whole (answered f y) None
  none false x e h = refl
  none true (answer a) e h = let z : ◌≡◌ {A = ℕ} 0 1 = cc in absurd (omega arith)
  none true (Ans.refused n) e h = ap (answered f) (h n refl)

-- it says q
some : (whole : Bool) (x : Answer (End × ℕ)) (q : End × ℕ) → answer q ≡ cond whole (or_nothing x) (Ans.refused 0) → (true ≡ whole) × (answer q ≡ x)
some true (answer a) q e = (refl, e)
some true (Ans.refused n) q e = let z : ◌≡◌ {A = ℕ} 0 1 = cc in absurd (omega arith)
some false x q e = let z : ◌≡◌ {A = ℕ} 0 1 = cc in absurd (omega arith)

is_said : (tab : HullTable) (r : ℕ) → (r ≡ 0 → ⊥) → end_and_visits tab r ≡ quick_answer tab r
is_said tab r h = rw (ne_eqb r 0 h) refl

-- ---- the contents at a point

coded : (c : BspLeafContents) → code_of c ≡ 0 → ⊥
coded Empty e = omega (arith, e)
coded Solid e = omega (arith, e)
coded Water e = omega (arith, e)
coded Slime e = omega (arith, e)
coded Lava e = omega (arith, e)
coded Sky e = omega (arith, e)
coded Current0 e = omega (arith, e)
coded Current90 e = omega (arith, e)
coded Current180 e = omega (arith, e)
coded Current270 e = omega (arith, e)
coded CurrentUp e = omega (arith, e)
coded CurrentDown e = omega (arith, e)

-- of what is met at the end, by its code
module _ (r : Answer (BspLeafContents × ℕ)) (code v : ℕ) where
  code_none : (y : Answer BspLeafContents) → code ≡ code_or y → code ≡ 0 → ((n : ℕ) → y ≡ Ans.refused n → Ans.refused n ≡ r) → None ≡ answered code_and_visits r
  code_none (answer c) e z unmet = absurd (coded c (sym e ∙ z))
  code_none (Ans.refused n) e z unmet = ap (answered code_and_visits) (unmet n refl)

  code_some : (y : Answer BspLeafContents) → code ≡ code_or y → (code ≡ 0 → ⊥) → ((c : BspLeafContents) → y ≡ answer c → answer (c, v) ≡ r) → Some (code, v) ≡ answered code_and_visits r
  code_some (answer c) e h met = ap (λ (n : ℕ). Some (n, v)) e ∙ ap (answered code_and_visits) (met c refl)
  code_some (Ans.refused n) e h met = absurd (h e)

of_file : (tab : HullTable) → is_box tab ≡ false → file_table (is_render tab) ≡ tab
of_file Render e = refl
of_file Clip e = refl
of_file Box e = let z : ◌≡◌ {A = ℕ} 0 1 = cc in absurd (omega arith)

module _ (s : List ℕ) (m : BspData) (a b : Vector3) (root : ℕ) (p : Vector3) where
  abbrev at_once : HullTable → Option (ℕ × ℕ)
  at_once tab = cond (are_whole (tables_of m tab a b) (length s)) (answered code_and_visits (with_visits (point_walk (table_of s m tab a b) root p))) None

  -- a box has no nodes in the file
  pub of_box : (tab : HullTable) → is_box tab ≡ true → None ≡ at_once tab
  unfolding are_whole
  of_box Render e = let z : ◌≡◌ {A = ℕ} 0 1 = cc in absurd (omega arith)
  of_box Clip e = let z : ◌≡◌ {A = ℕ} 0 1 = cc in absurd (omega arith)
  of_box Box e = refl

  its_table : (k : Bool) → file_table k ≡ (tables_of m (file_table k) a b).table
  its_table true = refl
  its_table false = refl

  its_leaves : (k : Bool) (w : ℕ) → end_code s k m.leaves.offset (m.leaves.size / 28) w ≡ end_code s k (tables_of m (file_table k) a b).leaves.at (tables_of m (file_table k) a b).leaves.count w
  its_leaves true w = refl
  its_leaves false w = refl

  module _ (tab : HullTable) (k : Bool) (is_k : k ≡ is_render tab) (no_box : is_box tab ≡ false) (t : Tables) (is-t : t ≡ tables_of m (file_table k) a b) (end : ℕ)
      (is_end : quick_answer (file_table k) end ≡ quick_walk s (tables_by k t.nodes.at t.nodes.count t.planes.at t.planes.count) root p) where
    abbrev u : Tables
    u = tables_of m (file_table k) a b

    abbrev T : Table End BspLeafContents
    T = Fast.table s u

    abbrev walked : Answer (BspLeafContents × ℕ)
    walked = with_visits (point_walk T root p)

    said : quick_answer (file_table k) end ≡ cond (are_whole u (length s)) (or_nothing (with_visits (point_walk (ends T) root p))) (Ans.refused 0)
    said =
        is_end ∙ ap (λ (x : Tables). quick_walk s (tables_by k x.nodes.at x.nodes.count x.planes.at x.planes.count) root p) is-t
        ∙ walk_said s m a b k root p

    of_walk : cond (are_whole u (length s)) (answered code_and_visits walked) None ≡ at_once tab
    of_walk =
        ap (λ (S : Table End BspLeafContents). cond (are_whole u (length s)) (answered code_and_visits (with_visits (point_walk S root p))) None) (table_is s m a b (file_table k))
        ∙ ap at_once (ap file_table is_k ∙ of_file tab no_box)

    pub no_walk : end ≡ 0 → None ≡ at_once tab
    no_walk e =
        none code_and_visits walked (are_whole u (length s)) (with_visits (point_walk (ends T) root p)) (ap (quick_answer (file_table k)) (sym e) ∙ said) (λ n q. point_refused T p root n q)
        ∙ of_walk

    module _ (h : end ≡ 0 → ⊥) (code : ℕ) (is_code : code ≡ end_code s k m.leaves.offset (m.leaves.size / 28) (end / 4294967296)) where
      abbrev w : ℕ
      w = end / 4294967296

      abbrev v : ℕ
      v = end % 4294967296

      its : (true ≡ are_whole u (length s)) × (answer (end_of (file_table k) w, v) ≡ with_visits (point_walk (ends T) root p))
      its = some (are_whole u (length s)) (with_visits (point_walk (ends T) root p)) (end_of (file_table k) w, v) (is_said (file_table k) end h ∙ said)

      to_end : answer (end_of u.table w, v) ≡ with_visits (point_walk (ends T) root p)
      to_end = ap (λ (x : HullTable). answer (end_of x w, v)) (sym (its_table k)) ∙ its.1

      of_end : code ≡ code_or (meet T (end_of u.table w))
      unfolding contents_met
      of_end = is_code ∙ its_leaves k w ∙ code_said s m a b k w

      whole : answered code_and_visits walked ≡ at_once tab
      whole = ap (λ (x : Bool). cond x (answered code_and_visits walked) None) its.0 ∙ of_walk

      pub no_code : code ≡ 0 → None ≡ at_once tab
      no_code z = code_none walked code v (meet T (end_of u.table w)) of_end z (λ n q. point_unmet T p root (end_of u.table w) v n to_end q) ∙ whole

      pub has_code : (code ≡ 0 → ⊥) → Some (code, v) ≡ at_once tab
      has_code z = code_some walked code v (meet T (end_of u.table w)) of_end z (λ c q. point_met T p root (end_of u.table w) v c to_end q) ∙ whole

-- ---- the leaf that a point is in

module _ (s : List ℕ) (m : BspData) (root : ℕ) (p : Vector3) where
  abbrev leaf_once : Option (ℕ × ℕ)
  leaf_once = cond (are_whole (tables_of m Render p p) (length s)) (answered (λ a. a) (with_visits (point_walk (leaf_table s m) root p))) None

  module _ (t : Tables) (is-t : t ≡ tables_of m Render p p) (end : ℕ)
      (is_end : quick_answer (file_table true) end ≡ quick_walk s (tables_by true t.nodes.at t.nodes.count t.planes.at t.planes.count) root p) where
    abbrev u-leaf : Tables
    u-leaf = tables_of m Render p p

    abbrev S : Table End ℕ
    S = Fast.leaves s u-leaf

    abbrev to_leaf : Answer (ℕ × ℕ)
    to_leaf = with_visits (point_walk S root p)

    said-leaf : quick_answer Render end ≡ cond (are_whole u-leaf (length s)) (or_nothing (with_visits (point_walk (ends S) root p))) (Ans.refused 0)
    said-leaf =
        is_end ∙ ap (λ (x : Tables). quick_walk s (tables_by true x.nodes.at x.nodes.count x.planes.at x.planes.count) root p) is-t
        ∙ walk_said s m p p true root p

    of_leaf : cond (are_whole u-leaf (length s)) (answered (λ a. a) to_leaf) None ≡ leaf_once
    of_leaf = ap (λ (L : Table End ℕ). cond (are_whole u-leaf (length s)) (answered (λ a. a) (with_visits (point_walk L root p))) None) (leaves_are s m p p)

    pub no_leaf_walk : end ≡ 0 → None ≡ leaf_once
    no_leaf_walk e =
        none (λ a. a) to_leaf (are_whole u-leaf (length s)) (with_visits (point_walk (ends S) root p)) (ap (quick_answer Render) (sym e) ∙ said-leaf) (λ n q. point_refused S p root n q)
        ∙ of_leaf

    module _ (h : end ≡ 0 → ⊥) where
      abbrev n : ℕ
      n = 65535 - end / 4294967296

      its-leaf : (true ≡ are_whole u-leaf (length s)) × (answer (end_of Render (end / 4294967296), end % 4294967296) ≡ with_visits (point_walk (ends S) root p))
      its-leaf = some (are_whole u-leaf (length s)) (with_visits (point_walk (ends S) root p)) (end_of Render (end / 4294967296), end % 4294967296) (is_said Render end h ∙ said-leaf)

      whole-leaf : answered (λ a. a) to_leaf ≡ leaf_once
      whole-leaf = ap (λ (x : Bool). cond x (answered (λ a. a) to_leaf) None) its-leaf.0 ∙ of_leaf

      abbrev many : ℕ
      many = m.leaves.size / 28

      outside : many ≤ n → meet S (end_of Render (end / 4294967296)) ≡ Ans.refused 30
      unfolding meet
      outside l = simp (le-ltb n many l)

      inside : n < many → meet S (end_of Render (end / 4294967296)) ≡ answer n
      unfolding meet
      inside l = simp (lt-ltb n many l)

      pub no_leaf : m.leaves.size < n * 28 + 28 → None ≡ leaf_once
      no_leaf l =
          ap (answered (λ a. a)) (point_unmet S p root (end_of Render (end / 4294967296)) (end % 4294967296) 30 its-leaf.1 (outside (omega (arith, l)))) ∙ whole-leaf

      pub has_leaf : n * 28 + 28 ≤ m.leaves.size → Some (n, end % 4294967296) ≡ leaf_once
      has_leaf l =
          ap (answered (λ a. a)) (point_met S p root (end_of Render (end / 4294967296)) (end % 4294967296) n its-leaf.1 (inside (omega (arith, l)))) ∙ whole-leaf

-- ---- what was said at once was answered

pub was_answered : {A B : Type 0} (f : A → B) (whole : Bool) (x : Answer A) (q : B) → Some q ≡ cond whole (answered f x) None → (a : A) × (answer a ≡ x) × (q ≡ f a)
was_answered f true (answer a) q e = (a, refl, cc)
was_answered f true (Ans.refused n) q e = let z : ◌≡◌ {A = ℕ} 0 1 = cc in absurd (omega arith)
was_answered f false x q e = let z : ◌≡◌ {A = ℕ} 0 1 = cc in absurd (omega arith)
