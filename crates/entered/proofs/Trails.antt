-- The nodes of a walk are its trail: each is what the walk goes on to from the one before.
-- Assumes nothing.
use Prim.Native.Nat.{ℕ, zero, suc, ◌+◌, ◌-◌, ◌^◌, ◌<◌, ◌≤◌}
use mathlib.Core.Path.{◌≡◌, refl, sym, ap, ◌∙◌}
use mathlib.Core.Bool.{Bool, true, false, cond}
use mathlib.Core.List.{List, [], ◌∷◌, ◌++◌, append_assoc, append-nil}
use native.Mathlib.Omega.{arith}
use native.Mathlib.Numerals.{add-one}
use borrow.Author.Tests.{lt-ltb, le-ltb, ltb-true, ltb-false}
use lib.Dec.{ltb}
use lib.ListN.{length, take, drop, set}
use lib.Seq.{take-suc-set, take_all, length-take-le}
use Rattle.format.proofs.Answers.{mapped_answer, mapped_refused}
use Rattle.format.proofs.Listing.{into_short, into_list}
use Rattle.std.specs.Prelude.{Result}
use Rattle.std.proofs.Common.{Ok, Err}
use Rattle.format.specs.Answer as Ans
use Rattle.format.specs.Answer.{Answer, answer}
use Rattle.format.specs.Listed.{listed, into}
use Rattle.format.specs.Refusal.{number_of}
use Rattle.format.specs.declared.refusal.Refusal.{Refusal}
use Rattle.math.specs.Plane as Pl
use Rattle.math.specs.declared.vector.Vector3.{Vector3}
use Rattle.walk.specs.Table.{Child, node, end, Table, child_on}
use Rattle.walk.specs.Walk.{Outcome, done, refused, entered, with_visits, Entered, enter, meet, ended, onto, walk_at, walk, point_walk}
use Rattle.walk.proofs.Steps.{walk_outside}
use Rattle.format.specs.declared.contents.BspLeafContents.{BspLeafContents}
use Rattle.math.specs.declared.plane.Hyperplane.{Hyperplane}
use Rattle.math.specs.declared.plane.HyperplaneSide.{HyperplaneSide}
use Rattle.format.specs.declared.section.BspData.{BspData}
use Rattle.nodes.specs.Tables.{End, table_of, leaf_table}
use Rattle.nodes.specs.declared.table.HullTable.{HullTable}
use Rattle.nodes.specs.declared.table.HullTable.TheVariants.{Render}
use Rattle.nodes.proofs.Equal.{leaves_are}
use Rattle.hull.proofs.Founds.{table_same}
use Rattle.nodes.specs.Fast.{tables_of, words_answer, node_of, word_on, plane_in, side_from, sided_answer}
use Rattle.nodes.specs.Fast as Fast
use Rattle.nodes.specs.declared.table.Tables.{Tables}
use Rattle.nodes.specs.declared.read.Words.{Words as WordsT}
use Rattle.nodes.proofs.Entering.{child_node, child_end, enter_not, enter_is, enter_no_plane}
use Rattle.entered.proofs.Listing.{Fills, too_short, filled}
use Rattle.entered.specs.Lists.{nodes_entered}
use Rattle.entered.specs.Private.{node_or0, onward, next, trail, trail_from}

module _ {E A : Type 0} (T : Table E A) (p : Vector3) where
  -- the nodes of an outcome are the trail from i
  abbrev Along : ℕ → Outcome A → Type 0
  Along i (done a ns) = ns ≡ trail T p (length ns) i
  Along i (refused n) = Unit {0}

  one_step : (i j : ℕ) (o : Outcome A) → next T p i ≡ j → Along j o → Along i (entered i o)
  unfolding trail
  one_step i j (done a ns) e h = ap (λ (l : List ℕ). i ∷ l) (h ∙ ap (trail T p (length ns)) (sym e))
  one_step i j (refused n) e h = tt

  at_end : (i : ℕ) (a : Answer A) → Along i (entered i (ended T (λ x. x) a))
  unfolding trail
  at_end i (answer a) = refl
  at_end i (Ans.refused n) = tt

  module _ (go : ℕ → Outcome A) (along : (n : ℕ) → Along n (go n)) (i : ℕ) where
    at_child : (c : Child E) → next T p i ≡ node_or0 c → Along i (entered i (onto T go (λ x. x) c))
    at_child (node n) e = one_step i n (go n) e (along n)
    at_child (end x) e = at_end i (meet T x)

    at_node_lem : (m : Answer (Entered E)) → next T p i ≡ onward p m → Along i (walk_at T go i p m)
    at_node_lem (answer m) e = at_child (child_on m.nd (Pl.point_side m.plane p)) e
    at_node_lem (Ans.refused n) e = tt

  by_index : (b : Bool) (i n : ℕ) (o : Outcome A) → Along i o → Along i (cond b o (refused n))
  by_index true i n o h = h
  by_index false i n o h = tt

  by_index_none : (b : Bool) (i n m : ℕ) → Along i (cond b (refused n) (refused m))
  by_index_none true i n m = tt
  by_index_none false i n m = tt

  along_walk : (k i : ℕ) → Along i (walk T k i p)
  unfolding walk next
  along_walk zero i = by_index_none (ltb i T.nodes.count) i 31 30
  along_walk (suc k) i = by_index (ltb i T.nodes.count) i 30 (walk_at T (λ n. walk T k n p) i p (enter T i)) (at_node_lem (λ n. walk T k n p) (λ n. along_walk k n) i (enter T i) refl)

  -- ---- the list that is left

  trail_length : (n i : ℕ) → length (trail T p n i) ≡ n
  unfolding trail
  trail_length zero i = refl
  trail_length (suc n) i = ap suc (trail_length n (next T p i))

  module _ (l : List ℕ) (v root : ℕ) where
    trail_short : length l < v → listed (Ans.refused 22) l ≡ into (answer (trail T p v root)) l
    trail_short h = into_short l (answer (trail T p v root)) v (sym (ap answer (trail_length v root))) h

    trail_fits : v ≤ length l → listed (answer v) (trail T p v root ++ drop v l) ≡ into (answer (trail T p v root)) l
    trail_fits h = into_list l (answer (trail T p v root)) v (trail T p v root) refl (sym (ap answer (trail_length v root))) h

  module _ (l : List ℕ) (root : ℕ) where
    fills_trail : (o : Outcome A) → Along root o → (v : ℕ) → length (take v l) ≡ v → Fills (nodes_entered o) (take v l) (trail T p v root)
    fills_trail (done a ns) h v q = λ g. sym (h ∙ ap (λ (n : ℕ). trail T p n root) (g ∙ q))
    fills_trail (refused n) h v q = tt

    by_visits : (o : Outcome A) → Along root o → (a : A) (v : ℕ) → answer (a, v) ≡ with_visits o → length l < 2 ^ 63 → (b : Bool) → ltb (length l) v ≡ b → into (answer (trail T p v root)) l ≡ into (nodes_entered o) l
    by_visits o h a v e f true t =
        let g = ltb-true (length l) v t in
        sym (trail_short l v root g) ∙ too_short l a v f o e g
    by_visits o h a v e f false t =
        let g = ltb-false (length l) v t in
        sym (trail_fits l v root g) ∙ filled l a v f o e g (trail T p v root) (fills_trail o h v (length-take-le v l g))

    pub listed_trail : (a : A) (v : ℕ) → answer (a, v) ≡ with_visits (point_walk T root p) → length l < 2 ^ 63 → into (trail_from T p v root) l ≡ into (nodes_entered (point_walk T root p)) l
    unfolding trail_from
    listed_trail a v e f = by_root (ltb root T.nodes.count) refl
      where
        by_root : (b : Bool) → ltb root T.nodes.count ≡ b → into (cond b (answer (trail T p v root)) (Ans.refused 30)) l ≡ into (nodes_entered (point_walk T root p)) l
        by_root true i = by_visits (point_walk T root p) (along_walk T.nodes.count root) a v e f (ltb (length l) v) refl
        by_root false i =
            let n : ◌≡◌ {A = Answer (A × ℕ)} (answer (a, v)) (Ans.refused 30) = e ∙ ap with_visits (walk_outside T p T.nodes.count root (ltb-false root T.nodes.count i)) in
            let z : ◌≡◌ {A = ℕ} 0 1 = cc in
            absurd (omega arith)

  -- ---- writing a trail

  module _ (n root : ℕ) where
    pub starts : (l : List ℕ) → take 0 l ++ trail T p (n - 0) root ≡ trail T p n root
    starts l = let q : n - 0 ≡ n = omega arith in ap (λ (k : ℕ). trail T p k root) q

    -- one entry more
    pub goes_on : (l : List ℕ) (i v : ℕ) → i < length l → i < n → take i l ++ trail T p (n - i) v ≡ trail T p n root
        → take (i + 1) (set l i v) ++ trail T p (n - (i + 1)) (next T p v) ≡ trail T p n root
    unfolding trail
    goes_on l i v h g e =
        let q : n - i ≡ suc (n - suc i) = omega arith in
        rw (add-one i, take-suc-set l i v h) (append_assoc (take i l) (v ∷ []) (trail T p (n - suc i) (next T p v)) ∙ sym (ap (λ (k : ℕ). take i l ++ trail T p k v) q) ∙ e)

    -- all entries are written
    pub ends : (l : List ℕ) (i v : ℕ) → length l ≡ n → n ≤ i → take i l ++ trail T p (n - i) v ≡ trail T p n root → l ≡ trail T p n root
    unfolding trail
    ends l i v f g e =
        let q : n - i ≡ 0 = omega arith in
        sym (append-nil l) ∙ ap (λ (x : List ℕ). x ++ []) (sym (take_all i l (omega arith))) ∙ sym (ap (λ (k : ℕ). take i l ++ trail T p k v) q) ∙ e

-- ---- the list of a walk, with the tables that the readers go by

module _ (s : List ℕ) (t : Tables) (p : Vector3) where
  -- the two tables differ only in what an end says
  trail_same : (n i : ℕ) → trail (Fast.table s t) p n i ≡ trail (Fast.leaves s t) p n i
  unfolding trail next enter
  trail_same zero i = refl
  trail_same (suc n) i = ap (λ (l : List ℕ). i ∷ l) (trail_same n (next (Fast.table s t) p i))

  from_same : (v root : ℕ) → trail_from (Fast.table s t) p v root ≡ trail_from (Fast.leaves s t) p v root
  unfolding trail_from
  from_same v root = rw (trail_same v root)

module _ (s : List ℕ) (m : BspData) (root : ℕ) (p : Vector3) (l : List ℕ) (short : length l < 2 ^ 63) where
  pub point_listed : (tab : HullTable) (mins maxs : Vector3) (t : Tables) → t ≡ tables_of m tab mins maxs
      → (c : BspLeafContents) (v : ℕ) → answer (c, v) ≡ with_visits (point_walk (table_of s m tab mins maxs) root p)
      → into (trail_from (Fast.table s t) p v root) l ≡ into (nodes_entered (point_walk (table_of s m tab mins maxs) root p)) l
  point_listed tab mins maxs t is-t c v e =
      ap (λ (T : Table End BspLeafContents). into (trail_from T p v root) l) (table_same s m tab mins maxs t is-t) ∙ listed_trail (table_of s m tab mins maxs) p l root c v e short

  pub leaf_listed : (mins maxs : Vector3) (t : Tables) → t ≡ tables_of m Render mins maxs
      → (n v : ℕ) → answer (n, v) ≡ with_visits (point_walk (leaf_table s m) root p)
      → into (trail_from (Fast.table s t) p v root) l ≡ into (nodes_entered (point_walk (leaf_table s m) root p)) l
  leaf_listed mins maxs t is-t n v e =
      ap (λ (a : Answer (List ℕ)). into a l) (from_same s t p v root ∙ ap (λ (T : Table End ℕ). trail_from T p v root) (ap (Fast.leaves s) is-t ∙ leaves_are s m mins maxs)) ∙ listed_trail (leaf_table s m) p l root n v e short

-- what `list_walk` answers
module _ (s : List ℕ) (t : Tables) (p : Vector3) (v root : ℕ) (l : List ℕ) where
  pub root_outside : t.nodes.count ≤ root → listed (Ans.refused 30) l ≡ into (trail_from (Fast.table s t) p v root) l
  unfolding trail_from
  root_outside g = simp (le-ltb root t.nodes.count g)

  module _ (g : root < t.nodes.count) where
    inside : trail_from (Fast.table s t) p v root ≡ answer (trail (Fast.table s t) p v root)
    unfolding trail_from
    inside = simp (lt-ltb root t.nodes.count g)

    pub lacks_room : length l < v → listed (Ans.refused 22) l ≡ into (trail_from (Fast.table s t) p v root) l
    lacks_room h = trail_short (Fast.table s t) p l v root h ∙ ap (λ (a : Answer (List ℕ)). into a l) (sym inside)

    pub written : v ≤ length l → (x : List ℕ) → x ≡ trail (Fast.table s t) p (length (take v l)) root
        → listed (answer v) (x ++ drop v l) ≡ into (trail_from (Fast.table s t) p v root) l
    written h x is_x =
        ap (λ (y : List ℕ). listed (answer v) (y ++ drop v l)) (is_x ∙ ap (λ (k : ℕ). trail (Fast.table s t) p k root) (length-take-le v l h))
        ∙ trail_fits (Fast.table s t) p l v root h ∙ ap (λ (a : Answer (List ℕ)). into a l) (sym inside)

-- ---- the node that a walk goes on to, by what the readers answer

module _ (s : List ℕ) (t : Tables) (p : Vector3) (i : ℕ) (r : Result WordsT Refusal) (is-r : words_answer t.table r ≡ Fast.node_at s t i) where
  abbrev T : Table End BspLeafContents
  T = Fast.table s t

  pub not_read : (x : Refusal) → r ≡ Err x → 0 ≡ next T p i
  unfolding next
  not_read x q = sym (ap (onward p) (enter_not s t T refl refl refl i r is-r x q))

  module _ (w : WordsT) (q : r ≡ Ok w) (r2 : Result Bool Refusal) (is-r2 : sided_answer r2 ≡ side_from p (plane_in s t w.plane)) where
    pub no_plane : (x : Refusal) → r2 ≡ Err x → 0 ≡ next T p i
    unfolding next
    no_plane x q2 =
        sym (ap (onward p) (enter_no_plane s t T refl refl refl i r is-r w q (number_of x) (mapped_refused (λ h. Pl.point_side h p) (plane_in s t w.plane) (number_of x) (sym is-r2 ∙ ap sided_answer q2))))

    module _ (b : Bool) (q2 : r2 ≡ Ok b) (word : ℕ) (is_word : word ≡ word_on w b) where
      on_side : (h : Hyperplane) × (plane_in s t w.plane ≡ answer h) × (Pl.point_side h p ≡ Pl.side_if b)
      on_side = mapped_answer (λ h. Pl.point_side h p) (plane_in s t w.plane) (Pl.side_if b) (sym is-r2 ∙ ap sided_answer q2)

      goes : next T p i ≡ node_or0 (child_on (node_of t.table w) (Pl.side_if b))
      unfolding next
      goes =
          ap (onward p) (enter_is s t T refl refl refl i r is-r w q on_side.0 on_side.1)
          ∙ ap (λ (y : HyperplaneSide). node_or0 (child_on (node_of t.table w) y)) on_side.2

      pub to_node : word < 32768 → word ≡ next T p i
      to_node l = sym (goes ∙ ap node_or0 (child_node t.table w b word is_word l))

      pub to_end : 32768 ≤ word → 0 ≡ next T p i
      to_end l = sym (goes ∙ ap node_or0 (child_end t.table w b word is_word l))
