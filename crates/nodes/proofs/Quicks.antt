-- Each way through a walk by the bytes of whole sections, which says nothing where the walk is refused; and the code of the contents at an end.
-- Assumes nothing.
use Rattle.std.specs.Prelude.{Option, Some, None, IfSome, Result, Ok, Err}
use Rattle.std.specs.Borrow.{Bor}
use Rattle.std.proofs.Common.{◌≡◌, ℕ, zero, suc, ◌+◌, ◌-◌, ◌*◌, ◌/◌, ◌%◌, ◌^◌, ◌<◌, ◌≤◌, Bool, true, false, cond, not, eqb, ltb, ◌⊎◌, inl, inr, List, length, get_or, sym, refl, ap, ◌∙◌, subst, arith, ltb-false, ltb-true, lt-ltb, le-ltb, ne_eqb}
use Rattle.format.specs.Answer as Ans
use Rattle.format.specs.Answer.{Answer, answer, then_answer}
use Rattle.format.specs.Code.{contents_of}
use Rattle.format.specs.Contents.{code_of}
use Rattle.format.specs.declared.contents.BspLeafContents.{BspLeafContents}
use Rattle.format.specs.declared.contents.BspLeafContents.TheVariants.{Empty, Solid, Water, Slime, Lava, Sky, Current0, Current90, Current180, Current270, CurrentUp, CurrentDown}
use Rattle.format.proofs.Codes.{high}
use Rattle.format.specs.declared.refusal.Refusal.{Refusal}
use Rattle.math.specs.Plane as Pl
use Rattle.math.specs.declared.vector.Vector3.{Vector3}
use Rattle.walk.specs.Walk.{with_visits, meet}
use Rattle.walk.specs.Private.{after}
use Rattle.walk.proofs.Steps.{walk_outside, walk_spent}
use Rattle.nodes.specs.Tables.{End, file_table}
use Rattle.nodes.specs.Fast.{u32, coded, end_of, is_invalid, is_render, leaf_contents_here, node_size, place_in, plane_here, table, contents_met}
use Rattle.nodes.specs.Walks.{are_whole, ends, child_toward, found_answer, made_from, MadeIn, node_bytes, onward_answer, plane_bytes, word_at}
use Rattle.nodes.specs.Quick.{code_or, end_code, leaves_by, or_nothing, part_with, quick_answer, quick_in, QuickIn, quick_walk, rest_in, RestIn, WalkedIn, said, tables_by, Whole, word_contents}
use Rattle.nodes.specs.declared.read.Words.{Words}
use Rattle.nodes.specs.declared.table.HullTable.{HullTable}
use Rattle.nodes.specs.declared.table.Tables.{Tables}
use Rattle.nodes.proofs.Making.{nodes_counted, none_of, made_toward, whole_answer}
use Rattle.nodes.proofs.Leaves.{low_code, bad_code, bad_vis, no_vis, vis}
use Rattle.nodes.proofs.Places.{none, unreadable, inside, outside}
use Rattle.nodes.proofs.Wholes.{whole_is, all_whole}
use Rattle.nodes.proofs.Stepping.{at_first, step_refused, step_node, step_end}

-- ---- the number of an end

-- a word times 2^32 and the visits
pub told : (tab : HullTable) (w v : ℕ) → 32768 ≤ w → v < 4294967296 → quick_answer tab (w * 4294967296 + v) ≡ answer (end_of tab w, v)
told tab w v h l =
    let q : (w * 4294967296 + v) / 4294967296 ≡ w = omega arith in
    let r : (w * 4294967296 + v) % 4294967296 ≡ v = omega arith in
    rw (ne_eqb (w * 4294967296 + v) 0 (λ e. omega (arith, e, h)), q, r)

-- what holds of whatever is said
pub of_some : {A : Type 0} (P : A → Type 0) (o : Option A) (x : A) → o ≡ Some x → IfSome o P → P x
of_some {A = A} P o x e h = subst (λ (y : Option A). IfSome y P) e h

-- ---- a walk

-- what is asked is the walk from the node i, where v nodes were entered before
abbrev pub Stands : List ℕ → List ℕ → Bool → (List ℕ → Tables → Answer (End × ℕ)) → Vector3 → ℕ → ℕ → Type 0
Stands n m render asked p i v = (s : List ℕ) (t : Tables) → Whole s t n m render → asked s t ≡ rest_in s t i v p

-- a number says what is asked
abbrev Says : List ℕ → List ℕ → Bool → (List ℕ → Tables → Answer (End × ℕ)) → ℕ → Type 0
Says n m render asked r = (s : List ℕ) (t : Tables) → Whole s t n m render → quick_answer t.table r ≡ asked s t

-- a walk from a root on, and one from a node on
abbrev pub from_root : ℕ → Vector3 → List ℕ → Tables → Answer (End × ℕ)
from_root root p s t = quick_in s t root p

abbrev pub from_node : ℕ → ℕ → Vector3 → List ℕ → Tables → Answer (End × ℕ)
from_node i v p s t = rest_in s t i v p

module _ (n m : List ℕ) (render : Bool) (p : Vector3) where
  abbrev count : ℕ
  count = length n / node_size render

  module _ (s : List ℕ) (t : Tables) (w : Whole s t n m render) where
    counted : count ≡ t.nodes.count
    counted = nodes_counted s t n m true w.its refl render w.table_is

    made : (i : ℕ) → i < count → (r : Result ℕ Refusal) → MadeIn (child_toward p) render n m (i * node_size render) (onward_answer (file_table render) r) → onward_answer t.table r ≡ made_from (child_toward p) s t i
    made i h r e = whole_answer s t n m true w.its refl render w.table_is i (child_toward p) (omega (arith, h, counted)) (λ x. onward_answer x r) e

  module _ (root : ℕ) where
    pub first : Stands n m render (from_root root p) p root 0
    first s t w = ap or_nothing (at_first (ends (table s t)) p t.nodes.count root)

    pub no_root : count ≤ root → QuickIn n m render root p 0
    no_root h s t w = sym (ap (λ o. or_nothing (with_visits o)) (walk_outside (ends (table s t)) p t.nodes.count root (omega (arith, h, counted s t w))))

    -- where the nodes may be more than the words
    pub few_walked : count < 32768 → (r : ℕ) → QuickIn n m render root p r → WalkedIn n m render root p r
    few_walked h r u s t w = u s t w ∙ sym (ap (λ b. cond b (quick_in s t root p) (Ans.refused 0)) (lt-ltb t.nodes.count 32768 (omega (arith, h, counted s t w))))

    pub many_walked : 32768 ≤ count → WalkedIn n m render root p 0
    many_walked h s t w = sym (ap (λ b. cond b (quick_in s t root p) (Ans.refused 0)) (le-ltb t.nodes.count 32768 (omega (arith, h, counted s t w))))

  module _ (asked : List ℕ → Tables → Answer (End × ℕ)) (i v : ℕ) (st : Stands n m render asked p i v) where
    -- what is left of the walk is said by a walk of its own
    pub handed_on : (r : ℕ) → RestIn n m render i v p r → Says n m render asked r
    handed_on r u s t w = u s t w ∙ sym (st s t w)

    module _ (h : i < count) where
      pub spent : count ≤ v → Says n m render asked 0
      spent g s t w =
          sym (st s t w ∙ ap (λ o. or_nothing (after v o)) (walk_spent (ends (table s t)) p (t.nodes.count - v) i (omega (arith, g, counted s t w)) (omega (arith, h, counted s t w))))

      module _ (g : v < count) (f : Result (Words × Bor (List ℕ)) Refusal) (is-f : MadeIn (λ y. y) render n m (i * node_size render) (found_answer (file_table render) f)) where
        pub refused_here : (x : Refusal) → f ≡ Err x → Says n m render asked 0
        refused_here x q s t w =
            sym (st s t w ∙ ap or_nothing (step_refused s t p v (t.nodes.count - v) (t.nodes.count - (v + 1)) i (omega (arith, g, counted s t w)) (omega (arith, h, counted s t w)) (Err x) (made s t w i h (Err x) (none_of (child_toward p) render n m (i * node_size render) f is-f x q)) x refl))

        module _ (y : Words) (b : Bor (List ℕ)) (is_y : f ≡ Ok (y, b)) (x : ℕ) (is_x : x ≡ word_at y (Pl.point_side (plane_here b.now 0) p)) where
          abbrev r : Result ℕ Refusal
          r = Ok x

          abbrev q : r ≡ Ok x
          q = refl

          is-r : MadeIn (child_toward p) render n m (i * node_size render) (onward_answer (file_table render) r)
          is-r = made_toward p render n m (i * node_size render) f is-f y b is_y x is_x

          goes : (s : List ℕ) (t : Tables) → Whole s t n m render → x < 32768 → asked s t ≡ rest_in s t x (v + 1) p
          goes s t w l =
              st s t w ∙ ap or_nothing (step_node s t p v (t.nodes.count - v) (t.nodes.count - (v + 1)) i (omega (arith, g, counted s t w)) (omega (arith, h, counted s t w)) r (made s t w i h r is-r) x q l)

          pub on_to : x < 32768 → Stands n m render asked p x (v + 1)
          on_to l s t w = goes s t w l

          by_word : v + 1 < 4294967296 → count ≤ x → (b : Bool) → ltb x 32768 ≡ b → Says n m render asked (cond b 0 (x * 4294967296 + (v + 1)))
          by_word f l true e s t w =
              sym (goes s t w (ltb-true x 32768 e) ∙ ap (λ o. or_nothing (after (v + 1) o)) (walk_outside (ends (table s t)) p (t.nodes.count - (v + 1)) x (omega (arith, l, counted s t w))))
          by_word f l false e s t w =
              told t.table x (v + 1) (ltb-false x 32768 e) f
              ∙ sym (st s t w ∙ ap or_nothing (step_end s t p v (t.nodes.count - v) (t.nodes.count - (v + 1)) i (omega (arith, g, counted s t w)) (omega (arith, h, counted s t w)) r (made s t w i h r is-r) x q (v + 1) (ltb-false x 32768 e) (omega arith) (omega (arith, f))))

          pub stops : v + 1 < 4294967296 → count ≤ x → (k : ℕ) → k ≡ cond (ltb x 32768) 0 (x * 4294967296 + (v + 1)) → Says n m render asked k
          stops f l k e = rw e (by_word f l (ltb x 32768) refl)

-- ---- the tables of some numbers

pub is_render_of : (k : Bool) → is_render (file_table k) ≡ k
is_render_of true = refl
is_render_of false = refl

below_limit : (c : ℕ) (b : Bool) → ltb 32767 c ≡ b → c ≤ cond b 0 c → c < 32768
below_limit c true e h = omega (arith, h)
below_limit c false e h = let l = ltb-false 32767 c e in omega (arith, l)

module _ (s : List ℕ) (k : Bool) (a c b d : ℕ) (t : Tables) (is-t : t ≡ tables_by k a c b d) (whole : Bool) (is_whole : whole ≡ are_whole t (length s)) where
  pub no_table : whole ≡ false → (root : ℕ) (p : Vector3) → Ans.refused 0 ≡ quick_walk s (tables_by k a c b d) root p
  unfolding quick_walk
  no_table e root p = rw (← is-t, ← is_whole, e)

  module _ (n m : List ℕ) (e : whole ≡ true) (is_n : n ≡ node_bytes whole s t) (is_m : m ≡ plane_bytes whole s t) where
    on : whole ≡ true
    on = e

    pub of_table : Whole s t n m k
    of_table =
        record {
          its = record { told = sym on ∙ is_whole; its_nodes = is_n ∙ ap (λ x. node_bytes x s t) on; its_planes = is_m ∙ ap (λ x. plane_bytes x s t) on };
          table_is = sym (ap (λ (x : Tables). is_render x.table) is-t ∙ is_render_of k);
        }

    fits : t.nodes.count ≤ t.nodes.readable
    fits = (whole_is t.nodes (node_size (is_render t.table)) (length s) (all_whole t (length s) (sym is_whole ∙ on)).1).0

    pub few : length n / node_size k < 32768
    few =
        let f : c ≤ cond (ltb 32767 c) 0 c = rw is-t at fits in
        let g : length n / node_size k ≡ c = nodes_counted s t n m true of_table.its refl k of_table.table_is ∙ ap (λ (x : Tables). x.nodes.count) is-t in
        omega (arith, g, below_limit c (ltb 32767 c) refl f)

    pub by_table : (root : ℕ) (p : Vector3) (r : ℕ) → quick_answer t.table r ≡ quick_in s t root p → quick_answer (file_table k) r ≡ quick_walk s (tables_by k a c b d) root p
    unfolding quick_walk
    by_table root p r q = ap (λ (x : Tables). quick_answer x.table r) (sym is-t) ∙ q ∙ sym (ap (λ (x : Bool). cond x (quick_in s t root p) (Ans.refused 0)) (sym is_whole ∙ on)) ∙ ap (λ (x : Tables). quick_walk s x root p) is-t

    -- by the loop of the kind of nodes that k says
    pub few_of : (j : Bool) → k ≡ j → length n / node_size j < 32768
    few_of j q = subst (λ (x : Bool). length n / node_size x < 32768) q few

    pub by_kind : (j : Bool) → k ≡ j → (root : ℕ) (p : Vector3) (r : ℕ) → QuickIn n m j root p r → quick_answer (file_table k) r ≡ quick_walk s (tables_by k a c b d) root p
    by_kind j q root p r u = by_table root p r (subst (λ (x : Bool). QuickIn n m x root p r) (sym q) u s t of_table)

-- ---- the code of an end

-- contents have the number that they stand for
pub code_is : (n : ℕ) (c : BspLeafContents) → contents_of n ≡ Some c → n ≡ code_of c
unfolding contents_of
code_is zero c e = let z : ◌≡◌ {A = ℕ} 0 1 = cc in absurd (omega arith)
code_is (suc zero) c e = let q : Empty ≡ c = cc in ap code_of q
code_is (suc (suc zero)) c e = let q : Solid ≡ c = cc in ap code_of q
code_is (suc (suc (suc zero))) c e = let q : Water ≡ c = cc in ap code_of q
code_is (suc (suc (suc (suc zero)))) c e = let q : Slime ≡ c = cc in ap code_of q
code_is (suc (suc (suc (suc (suc zero))))) c e = let q : Lava ≡ c = cc in ap code_of q
code_is (suc (suc (suc (suc (suc (suc zero)))))) c e = let q : Sky ≡ c = cc in ap code_of q
code_is (suc (suc (suc (suc (suc (suc (suc zero))))))) c e = let z : ◌≡◌ {A = ℕ} 0 1 = cc in absurd (omega arith)
code_is (suc (suc (suc (suc (suc (suc (suc (suc zero)))))))) c e = let z : ◌≡◌ {A = ℕ} 0 1 = cc in absurd (omega arith)
code_is (suc (suc (suc (suc (suc (suc (suc (suc (suc zero))))))))) c e = let q : Current0 ≡ c = cc in ap code_of q
code_is (suc (suc (suc (suc (suc (suc (suc (suc (suc (suc zero)))))))))) c e = let q : Current90 ≡ c = cc in ap code_of q
code_is (suc (suc (suc (suc (suc (suc (suc (suc (suc (suc (suc zero))))))))))) c e = let q : Current180 ≡ c = cc in ap code_of q
code_is (suc (suc (suc (suc (suc (suc (suc (suc (suc (suc (suc (suc zero)))))))))))) c e = let q : Current270 ≡ c = cc in ap code_of q
code_is (suc (suc (suc (suc (suc (suc (suc (suc (suc (suc (suc (suc (suc zero))))))))))))) c e = let q : CurrentUp ≡ c = cc in ap code_of q
code_is (suc (suc (suc (suc (suc (suc (suc (suc (suc (suc (suc (suc (suc (suc zero)))))))))))))) c e = let q : CurrentDown ≡ c = cc in ap code_of q
code_is (suc (suc (suc (suc (suc (suc (suc (suc (suc (suc (suc (suc (suc (suc (suc n))))))))))))))) c e = let q : None ≡ Some c = sym (high (suc (suc (suc (suc (suc (suc (suc (suc (suc (suc (suc (suc (suc (suc (suc n))))))))))))))) (omega arith)) ∙ e in let z : ◌≡◌ {A = ℕ} 0 1 = cc in absurd (omega arith)

abbrev is_coded : ℕ → Bool
is_coded n = not (is_invalid (contents_of n))

-- the codes below 15 are the bits of 32382
pub coded_low : (n : ℕ) → n < 15 → eqb (32382 / 2 ^ n % 2) 1 ≡ is_coded n
unfolding contents_of
coded_low zero h = refl
coded_low (suc zero) h = refl
coded_low (suc (suc zero)) h = refl
coded_low (suc (suc (suc zero))) h = refl
coded_low (suc (suc (suc (suc zero)))) h = refl
coded_low (suc (suc (suc (suc (suc zero))))) h = refl
coded_low (suc (suc (suc (suc (suc (suc zero)))))) h = refl
coded_low (suc (suc (suc (suc (suc (suc (suc zero))))))) h = refl
coded_low (suc (suc (suc (suc (suc (suc (suc (suc zero)))))))) h = refl
coded_low (suc (suc (suc (suc (suc (suc (suc (suc (suc zero))))))))) h = refl
coded_low (suc (suc (suc (suc (suc (suc (suc (suc (suc (suc zero)))))))))) h = refl
coded_low (suc (suc (suc (suc (suc (suc (suc (suc (suc (suc (suc zero))))))))))) h = refl
coded_low (suc (suc (suc (suc (suc (suc (suc (suc (suc (suc (suc (suc zero)))))))))))) h = refl
coded_low (suc (suc (suc (suc (suc (suc (suc (suc (suc (suc (suc (suc (suc zero))))))))))))) h = refl
coded_low (suc (suc (suc (suc (suc (suc (suc (suc (suc (suc (suc (suc (suc (suc zero)))))))))))))) h = refl
coded_low (suc (suc (suc (suc (suc (suc (suc (suc (suc (suc (suc (suc (suc (suc (suc n))))))))))))))) h = absurd (omega (arith, h))

pub coded_high : (n : ℕ) → 15 ≤ n → false ≡ is_coded n
coded_high n h = ap (λ (x : Option BspLeafContents). not (is_invalid x)) (sym (high n (omega (arith, h))))

-- the number where it is a code, and 0
pub number_said : (n : ℕ) (x : Option BspLeafContents) → contents_of n ≡ x → (b : Bool) → b ≡ not (is_invalid x) → cond b n 0 ≡ code_or (said x)
number_said n (Some c) e b q = rw q (code_is n c e)
number_said n None e b q = rw q refl

no_code : (x : Option BspLeafContents) → not (is_invalid x) ≡ false → x ≡ None
no_code (Some c) e = let z : ◌≡◌ {A = ℕ} 0 1 = cc in absurd (omega arith)
no_code None e = refl

its_contents : (x : Option BspLeafContents) → not (is_invalid x) ≡ true → (c : BspLeafContents) × (x ≡ Some c)
its_contents (Some c) e = (c, refl)
its_contents None e = let z : ◌≡◌ {A = ℕ} 0 1 = cc in absurd (omega arith)

u32_small : (s : List ℕ) (at : ℕ) → ((i : ℕ) → get_or s i 0 < 256) → u32 s at < 4294967296
unfolding u32
u32_small s at f = omega (arith, f at, f (at + 1), f (at + 2), f (at + 3))

-- the number of a leaf's contents is the file's, negated: r
module _ (s : List ℕ) (at : ℕ) (h : at + 28 ≤ length s) (fits : (i : ℕ) → get_or s i 0 < 256) (x : ℕ) (is_x : x ≡ u32 s at) (r : ℕ) (neg : (r + x) % 4294967296 ≡ 0) (r_fits : r < 4294967296) where
  small : x < 4294967296
  small = rw is_x (u32_small s at fits)

  abbrev m : ℕ
  m = 4294967295 - x + 1

  low_is_none : x < 2147483648 → (b : Bool) → ltb r 15 ≡ b → contents_of r ≡ None
  unfolding contents_of
  low_is_none l true e = rw (omega-zero (ltb-true r 15 e)) refl
    where
      omega-zero : r < 15 → r ≡ 0
      omega-zero q = omega (arith, q, l, neg)
  low_is_none l false e = high r (omega (arith, ltb-false r 15 e))

  by_sign : (b : Bool) → ltb x 2147483648 ≡ b → contents_of r ≡ None → 0 ≡ code_or (leaf_contents_here s at)
  by_sign true e q = ap code_or (low_code s at x 0 h is_x (ltb-true x 2147483648 e))
  by_sign false e q =
      let l = ltb-false x 2147483648 e in
      let k : r ≡ m = omega (arith, l, neg, r_fits, small) in
      ap code_or (bad_code s at x 0 h is_x l small m refl (ap contents_of (sym k) ∙ q))

  pub leaf_none : is_coded r ≡ false → 0 ≡ code_or (leaf_contents_here s at)
  leaf_none e = by_sign (ltb x 2147483648) refl (no_code (contents_of r) e)

  module _ (e : is_coded r ≡ true) where
    of_code : (c : BspLeafContents) × (contents_of r ≡ Some c)
    of_code = its_contents (contents_of r) e

    negative : (b : Bool) → ltb x 2147483648 ≡ b → 2147483648 ≤ x
    negative true q =
        let w : ◌≡◌ {A = Option BspLeafContents} None (Some of_code.0) = sym (low_is_none (ltb-true x 2147483648 q) (ltb r 15) refl) ∙ of_code.1 in
        let z : ◌≡◌ {A = ℕ} 0 1 = cc in absurd (omega arith)
    negative false q = ltb-false x 2147483648 q

    sign : 2147483648 ≤ x
    sign = negative (ltb x 2147483648) refl

    is_m : r ≡ m
    is_m = omega (arith, sign, neg, r_fits, small)

    of_m : contents_of m ≡ Some of_code.0
    of_m = ap contents_of (sym is_m) ∙ of_code.1

    module _ (v : ℕ) (is_v : v ≡ u32 s (at + 4)) where
      pub leaf_unseen : 2147483648 ≤ v → v < 4294967295 → 0 ≡ code_or (leaf_contents_here s at)
      leaf_unseen a b = ap code_or (bad_vis s at x v h is_x sign small m refl of_code.0 of_m is_v a b)

      pub leaf_number : (v < 2147483648) ⊎ (4294967295 ≤ v) → r ≡ code_or (leaf_contents_here s at)
      leaf_number (inl a) = code_is r of_code.0 of_code.1 ∙ ap code_or (vis s at x v h is_x sign small m refl of_code.0 of_m is_v a)
      leaf_number (inr b) =
          code_is r of_code.0 of_code.1 ∙ ap code_or (no_vis s at x v h is_x sign small m refl of_code.0 of_m is_v b (rw is_v (u32_small s (at + 4) fits)))

module _ (s : List ℕ) (a n w : ℕ) where
  abbrev leaf_there : Answer BspLeafContents
  leaf_there = then_answer (place_in (part_with a n 32767) 28 (length s) (65535 - w)) (leaf_contents_here s)

  by_count : (b : Bool) → ltb (65535 - w) n ≡ b → code_or leaf_there ≡ code_or (cond b leaf_there (Ans.refused 30))
  by_count true e = refl
  by_count false e =
      ap (λ (x : Answer ℕ). code_or (then_answer x (leaf_contents_here s))) (sym (none (part_with a n 32767) 28 (length s) (65535 - w) (ltb-false (65535 - w) n e)))

  by_leaf : code_or leaf_there ≡ end_code s true a n w
  unfolding end_code contents_met meet
  by_leaf = by_count (ltb (65535 - w) n) refl

  by_coded : (x : Option BspLeafContents) → said x ≡ meet (table s (leaves_by false a n)) (coded x)
  unfolding meet
  by_coded (Some c) = refl
  by_coded None = refl

  by_said : code_or (word_contents w) ≡ end_code s false a n w
  unfolding end_code contents_met
  by_said = ap code_or (by_coded (contents_of (65536 - w)))

  module _ (k : Bool) where
    pub code_word : k ≡ false → (c : ℕ) → c ≡ code_or (word_contents w) → c ≡ end_code s k a n w
    code_word e c q = rw e (q ∙ by_said)

    -- a leaf, of z bytes of leaves
    module _ (e : k ≡ true) (z : ℕ) (is_n : n ≡ z / 28) where
      abbrev i : ℕ
      i = 65535 - w

      there : (x : Answer ℕ) → x ≡ place_in (part_with a n 32767) 28 (length s) i → code_or (then_answer x (leaf_contents_here s)) ≡ end_code s k a n w
      there x q = rw e (ap (λ (y : Answer ℕ). code_or (then_answer y (leaf_contents_here s))) q ∙ by_leaf)

      by_limit : (b : Bool) → ltb i n ≡ b → 32767 < n → 0 ≡ end_code s k a n w
      by_limit true q l = there (Ans.refused 23) (unreadable (part_with a n 32767) 28 (length s) i (ltb-true i n q) (rw (lt-ltb 32767 n l) (omega arith)))
      by_limit false q l = there (Ans.refused 20) (none (part_with a n 32767) 28 (length s) i (ltb-false i n q))

      pub code_many : 917504 ≤ z → 0 ≡ end_code s k a n w
      code_many l = by_limit (ltb i n) refl (omega (arith, l, is_n))

      pub code_none : z < i * 28 + 28 → 0 ≡ end_code s k a n w
      code_none l = there (Ans.refused 20) (none (part_with a n 32767) 28 (length s) i (omega (arith, l, is_n)))

      module _ (l : z < 917504) (h : i * 28 + 28 ≤ z) where
        its : i < n
        its = omega (arith, h, is_n)

        readable : i < cond (ltb 32767 n) 0 n
        readable = rw (le-ltb 32767 n (omega (arith, l, is_n))) its

        pub code_past : length s < a + (i * 28 + 28) → 0 ≡ end_code s k a n w
        code_past g = there (Ans.refused 23) (outside (part_with a n 32767) 28 (length s) i its readable (omega (arith, g)))

        pub code_leaf : a + (i * 28 + 28) ≤ length s → (at : ℕ) → at ≡ a + i * 28 → (c : ℕ) → c ≡ code_or (leaf_contents_here s at) → c ≡ end_code s k a n w
        code_leaf g at is_at c is_c = is_c ∙ there (answer at) (ap answer is_at ∙ inside (part_with a n 32767) 28 (length s) i its readable (omega (arith, g)))
