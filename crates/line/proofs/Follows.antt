-- The whole line in one loop: what a node says to a part and to a look, and what becomes of the planes that wait. Assumes nothing.
use Rattle.std.specs.Prelude.{Option, Some, None, Result, Ok}
use Rattle.format.specs.declared.refusal.Refusal.{Refusal}
use Prim.Native.Nat.{ℕ, zero, suc, ◌+◌, ◌-◌, ◌*◌, ◌/◌, ◌<◌, ◌≤◌}
use native.Mathlib.Omega.{arith}
use mathlib.Core.Path.{◌≡◌, refl, sym, ap, subst, ◌∙◌}
use mathlib.Core.Bool.{Bool, true, false, cond, not, ◌&&◌}
use mathlib.Core.Logic.{◌⊎◌, inl, inr}
use mathlib.Core.List.{List, [], ◌∷◌}
use borrow.Author.Tests.{leb-false}
use lib.Dec.{leb, ltb}
use lib.Ieee as Ieee
use lib.Ieee.{Float, binary32, nan}
use lib.ListN.{length, drop, get_or, set, drop_of_length-le, length-set}
use Rattle.std.proofs.lemmas.List.{get_or-set_other}
use lib.Seq.{drop-cons, drop-set-lt, get_or-set_same}
use Rattle.float.proofs.Compare.{order}
use Rattle.format.proofs.Answers.{mapped_answer}
use Rattle.format.specs.Answer as Ans
use Rattle.format.specs.Answer.{Answer, answer, then_answer}
use Rattle.format.specs.Contents as Contents
use Rattle.format.specs.declared.contents.BspLeafContents.{BspLeafContents}
use Rattle.format.specs.declared.contents.BspLeafContents.TheVariants.{Solid}
use Rattle.math.specs.Vector.{zero32, one32}
use Rattle.math.specs.Plane as Pl
use Rattle.math.specs.declared.vector.Vector3.{Vector3}
use Rattle.math.specs.declared.plane.Hyperplane.{Hyperplane}
use Rattle.math.specs.declared.plane.HyperplaneSide.{HyperplaneSide}
use Rattle.walk.specs.Table.{Child, node, end, Node, Table, child_on}
use Rattle.walk.specs.Walk.{Entered, enter, meet, with_node}
use Rattle.nodes.specs.Tables.{End, is_box}
use Rattle.nodes.specs.Fast.{child_of, end_of, point_of, node_of, word_on, plane_in, place_in, node_in, node_at, node_size, is_render, render_node_here, clip_node_here, contents_met}
use Rattle.nodes.specs.Fast as Fast
use Rattle.nodes.specs.Walks.{Read, MadeOf, made_from, child_by_distance, onward_answer, node_and_dists, segment_answer, are_whole, is_whole}
use Rattle.nodes.specs.declared.table.HullTable.{HullTable}
use Rattle.nodes.specs.declared.table.HullTable.TheVariants.{Render, Clip, Box}
use Rattle.nodes.specs.declared.table.Part.{Part}
use Rattle.nodes.specs.declared.table.Tables.{Tables}
use Rattle.nodes.specs.declared.read.Words.{Words as WordsT}
use Rattle.nodes.proofs.Entering.{child_is}
use Rattle.line.specs.Line.{line_answer, fraction_at, plane_from, with_plane, Went, onward, stopped, refused, stretch, unset, near_part, far_part, point_at, crossing, into, tenth, contents_on, contents_at, contents_from, backed_off, back_off, into_leaf, on_child, blocked, beyond, past, line_from}
use Rattle.line.specs.Private.{Cut, Keeps, Kept, from_front, ended, Resumes, Blocks, Follows, word_went, word_look, past_waiting, Stand, Tip, part_from, stands, from_start, beyond_it, stand_went, Reaches, Met, Turned, Arrives, AtOnce, Stops, all_went, seen_line}
use Rattle.line.specs.declared.ground.Ground.{Ground}
use Rattle.line.specs.declared.state.Stretch.{Stretch}
use Rattle.line.specs.declared.state.LineTrace.{LineTrace}
use Rattle.line.specs.declared.state.LinePlane.{LinePlane}
use Rattle.line.specs.declared.through.Mark.{Mark}
use Rattle.line.specs.declared.through.Reached.TheVariants as N
use Rattle.line.specs.declared.through.Turn.{Turn}
use Rattle.line.specs.declared.through.Turn.TheVariants as U
use Rattle.line.specs.declared.through.Came.{Came}
use Rattle.line.specs.declared.through.Came.TheVariants as C
use Rattle.line.proofs.States.{pick_true, pick_false}
use Rattle.line.proofs.Seen.{Made, Opened, opened, note_read}
use Rattle.line.proofs.Looks.{look_outside, look_step, word_node, word_end, goes}
use Rattle.line.proofs.Lines.{other_side, blocked_by}
use Rattle.line.proofs.Backs.{back_open}

-- ---- a node of a whole table

not_box : (t : Tables) (n : ℕ) → are_whole t n ≡ true → is_box t.table ≡ false
unfolding are_whole
not_box t n e = by (is_box t.table) refl e
  where
    by : (b : Bool) → is_box t.table ≡ b → cond b false (cond (is_whole t.nodes (node_size (is_render t.table)) n) (is_whole t.planes 20 n) false) ≡ true → is_box t.table ≡ false
    by true q e = cc
    by false q e = q

placed : {X : Type 0} (p : Part) (size n i : ℕ) (go : ℕ → Answer X) (x : X) → then_answer (place_in p size n i) go ≡ answer x → i < p.count
unfolding place_in
placed p size n i go x e = by (leb p.count i) refl e
  where
    by : (b : Bool) → leb p.count i ≡ b → then_answer (cond b (Ans.refused 20) (cond (leb p.readable i) (Ans.refused 23) (cond (leb (p.at + i * size + size) n) (answer (p.at + i * size)) (Ans.refused 23)))) go ≡ answer x → i < p.count
    by true q e = cc
    by false q e = leb-false p.count i q

noded : (tab : HullTable) (f : List ℕ) (p : Part) (i : ℕ) (nd : Node End) → is_box tab ≡ false → node_in tab f p i ≡ answer nd → i < p.count
noded Render f p i nd b e = placed p 24 (length f) i (render_node_here f) nd e
noded Clip f p i nd b e = placed p 8 (length f) i (clip_node_here f) nd e
noded Box f p i nd b e = cc

entered_within : (f : List ℕ) (t : Tables) (i : ℕ) (m : Entered End) → is_box t.table ≡ false → enter (Fast.table f t) i ≡ answer m → i < t.nodes.count
unfolding enter node_at
entered_within f t i m b e = by (node_at f t i) refl e
  where
    by : (a : Answer (Node End)) → node_at f t i ≡ a → with_node (Fast.table f t) a ≡ answer m → i < t.nodes.count
    by (answer nd) q e = noded t.table f t.nodes i nd b q
    by (Ans.refused n) q e = cc

pub open_in : {f : List ℕ} {t : Tables} {n m : List ℕ} {whole : Bool} → Read f t n m whole → whole ≡ true → {render : Bool} → render ≡ is_render t.table
    → {i k : ℕ} {p q : Vector3} {r : Result (WordsT × Float × Float) Refusal} → MadeOf (node_and_dists p q) render n m i (λ t. segment_answer t r)
    → (k ≡ 0 → ⊥) → {w : WordsT} {a b : Float} → r ≡ Ok (w, a, b) → Opened f t i k p q w a b
open_in {f} {t} {whole = whole} R on is_render_lem {i} {k} {p} {q} is-r z {w} {a} {b} e =
    let made : answer (node_of t.table w, (a, b)) ≡ made_from (node_and_dists p q) f t i = sym (ap (segment_answer t.table) e) ∙ is-r.1 f t whole R on is_render_lem in
    let x = mapped_answer (node_and_dists p q) (enter (Fast.table f t) i) (node_of t.table w, (a, b)) (sym made) in
    let h : i < t.nodes.count = entered_within f t i x.0 (not_box t (length f) (sym R.told ∙ on)) x.1 in
    opened (made ∙ note_read (node_and_dists p q) f t i k h z)

pub look_in_whole : (p : Vector3) {f : List ℕ} {t : Tables} {n m : List ℕ} {whole : Bool} → Read f t n m whole → whole ≡ true → {render : Bool} → render ≡ is_render t.table
    → {i k : ℕ} {r : Result ℕ Refusal} → MadeOf (child_by_distance p) render n m i (λ t. onward_answer t r)
    → (k ≡ 0 → ⊥) → {word : ℕ} → r ≡ Ok word → Made (child_by_distance p) f t i k (child_of t.table word)
look_in_whole p {f} {t} {whole = whole} R on is_render_lem {i} {k} is-r z {word} e =
    let made : answer (child_of t.table word) ≡ made_from (child_by_distance p) f t i = sym (ap (onward_answer t.table) e) ∙ is-r.1 f t whole R on is_render_lem in
    let x = mapped_answer (child_by_distance p) (enter (Fast.table f t) i) (child_of t.table word) (sym made) in
    record { in_range = entered_within f t i x.0 (not_box t (length f) (sym R.told ∙ on)) x.1; left = z; node = x.0; entered = x.1; is_made = x.2 }

-- what a look makes of it
module _ {f : List ℕ} {t : Tables} {i k : ℕ} {p q : Vector3} {w : WordsT} {a b : Float} (O : Opened f t i k p q w a b) {word : ℕ} (is_word : word ≡ word_on w (Ieee.le zero32 a)) where
  looks : Made (child_by_distance p) f t i k (child_of t.table word)
  looks = record {
    in_range = O.in_range;
    left = O.left;
    node = record { nd = node_of t.table w; plane = O.plane };
    entered = O.entered;
    is_made = ap (λ (d : Float). child_on (node_of t.table w) (Pl.from_dist d)) O.first ∙ child_is t.table w (Ieee.le zero32 a) ∙ ap (child_of t.table) (sym is_word);
  }

  pub look_either : word_look f t (k - 1) word p ≡ contents_from (Fast.table f t) k i p
  look_either = sym (goes f t k i p word looks)

-- ---- a child by its word: a node, or an end

module _ (f : List ℕ) (t : Tables) (left : ℕ) (word : ℕ) where
  pub node_went : word < 32768 → (root : ℕ) (s : Stretch) (l : LineTrace) → line_from (Fast.table f t) root left word s l ≡ word_went f t root left word s l
  node_went h root s l = sym (ap (λ (y : Child End). on_child (Fast.table f t) (λ n s l. line_from (Fast.table f t) root left n s l) y s l) (word_node t.table word h))

  pub node_look : word < 32768 → (p : Vector3) → contents_from (Fast.table f t) left word p ≡ word_look f t left word p
  node_look h p = sym (ap (contents_on (Fast.table f t) (λ n. contents_from (Fast.table f t) left n p)) (word_node t.table word h))

  pub end_went : 32768 ≤ word → (root : ℕ) (s : Stretch) (l : LineTrace) → into_leaf (Fast.table f t) l (contents_met f t word) ≡ word_went f t root left word s l
  unfolding contents_met
  end_went h root s l = sym (ap (λ (y : Child End). on_child (Fast.table f t) (λ n s l. line_from (Fast.table f t) root left n s l) y s l) (word_end t.table word h))

  pub end_look : 32768 ≤ word → (p : Vector3) → contents_met f t word ≡ word_look f t left word p
  unfolding contents_met
  end_look h p = sym (ap (contents_on (Fast.table f t) (λ n. contents_from (Fast.table f t) left n p)) (word_end t.table word h))

-- ---- a look with more calls left

module _ {E : Type 0} (T : Table E BspLeafContents) (p : Vector3) where
  pub more_on : (go more : ℕ → Answer BspLeafContents) → ((n : ℕ) (c : BspLeafContents) → go n ≡ answer c → more n ≡ answer c)
      → (x : Child E) (c : BspLeafContents) → contents_on T go x ≡ answer c → contents_on T more x ≡ answer c
  more_on go more h (node n) c e = h n c e
  more_on go more h (end x) c e = e

  more_at : (go more : ℕ → Answer BspLeafContents) → ((n : ℕ) (c : BspLeafContents) → go n ≡ answer c → more n ≡ answer c)
      → (a : Answer (Entered E)) (c : BspLeafContents) → contents_at T go p a ≡ answer c → contents_at T more p a ≡ answer c
  more_at go more h (answer m) c e = more_on go more h (child_on m.nd (Pl.from_dist (Pl.point_dist m.plane p))) c e
  more_at go more h (Ans.refused n) c e = e

  none_left : (i : ℕ) (c : BspLeafContents) → contents_from T 0 i p ≡ answer c → ⊥
  unfolding contents_from
  none_left i c e = by (ltb i T.nodes.count) e
    where
      by : (b : Bool) → cond b (Ans.refused 32) (Ans.refused 30) ≡ answer c → ⊥
      by true e = cc
      by false e = cc

  pub look_more : (j k i : ℕ) → j ≤ k → (c : BspLeafContents) → contents_from T j i p ≡ answer c → contents_from T k i p ≡ answer c
  look_more zero k i h c e = absurd (none_left i c e)
  look_more (suc j) zero i h c e = absurd (omega arith)
  look_more (suc j) (suc k) i h c e = by (order i T.nodes.count) (λ n c e. look_more j k n (omega (arith, h)) c e)
    where
      by : (i < T.nodes.count) ⊎ (T.nodes.count ≤ i) → ((n : ℕ) (c : BspLeafContents) → contents_from T j n p ≡ answer c → contents_from T k n p ≡ answer c) → contents_from T (suc k) i p ≡ answer c
      by (inl l) ih =
          look_step T p (suc k) k i refl l
          ∙ more_at (λ n. contents_from T j n p) (λ n. contents_from T k n p) ih (enter T i) c (sym (look_step T p (suc j) j i refl l) ∙ e)
      by (inr l) ih = let z : Ans.refused 30 ≡ answer c = sym (look_outside T p (suc j) i l) ∙ e in cc

-- ---- what ends a line does not go on

abbrev Settled : Went → Type 0
Settled (onward l) = ⊥
Settled (stopped l) = Unit {0}
Settled (refused n) = Unit {0}

settled_by_lem : (b : Bool) (x y : Went) → Settled x → Settled y → Settled (cond b x y)
settled_by_lem true x y u v = u
settled_by_lem false x y u v = v

module _ {E : Type 0} (T : Table E BspLeafContents) (root : ℕ) where
  backed_settled : (go : Float → Went) → ((j : Float) → Settled (go j)) → (s : Stretch) (k : Float) (l : LineTrace) (a : Answer BspLeafContents) → Settled (backed_off T go s k l a)
  backed_settled go h s k l (answer c) =
      settled_by_lem (Contents.equal c Solid) _ _ (settled_by_lem (Ieee.le zero32 (Ieee.sub binary32 k tenth)) _ _ (h (Ieee.sub binary32 k tenth)) tt) tt
  backed_settled go h s k l (Ans.refused n) = tt

  back_settled : (n : ℕ) (s : Stretch) (k : Float) (l : LineTrace) → Settled (back_off T n root s k l)
  unfolding back_off
  back_settled zero s k l = tt
  back_settled (suc n) s k l = backed_settled (λ j. back_off T n root s j l) (λ j. back_settled n s j l) s k l (contents_from T 512 root (point_at s k))

  blocked_settled : (h : Hyperplane) (side : HyperplaneSide) (s : Stretch) (k : Float) (l : LineTrace) → Settled (blocked T root h side s k l)
  blocked_settled h side s k l = settled_by_lem l.all_solid (stopped l) _ tt (back_settled 10 s k _)

-- ---- the planes that wait

module _ (f : List ℕ) (t : Tables) (root : ℕ) where
  abbrev T : Table End BspLeafContents
  T = Fast.table f t

  passes : (x : Cut) (h : Hyperplane) (w : Went) → Settled w → past_waiting f t root x h w ≡ w
  passes x h (onward l) u = absurd u
  passes x h (stopped l) u = refl
  passes x h (refused n) u = refl

  resume_ends : (xs : List Cut) (w all : Went) → Settled w → Resumes f t root xs w all → w ≡ all
  resume_ends [] w all u r = r
  resume_ends (x ∷ xs) w all u r = resume_ends xs w all u (subst (λ (y : Went). Resumes f t root xs y all) (passes x r.1.0 w u) r.1.1.1)

  -- the near side of the first was traced: on to its far side
  module _ (x : Cut) (xs : List Cut) (l : LineTrace) (all : Went) (r : Resumes f t root (x ∷ xs) (onward l) all) where
    abbrev h : Hyperplane
    h = r.1.0

    abbrev nd : Node End
    nd = node_of t.table x.w

    abbrev front : Bool
    front = Ieee.le zero32 x.a

    abbrev go : ℕ → Stretch → LineTrace → Went
    go = λ n s l. line_from T root x.left n s l

    module _ (word : ℕ) (is_word : word ≡ word_on x.w (not front)) where
      far_child : child_of t.table word ≡ child_on nd (Pl.negated_side (Pl.from_dist x.a))
      far_child = ap (child_of t.table) is_word ∙ sym (child_is t.table x.w (not front)) ∙ ap (child_on nd) (other_side front)

      pub resumes : (s : Stretch) → s ≡ far_part x.part x.k → Follows f t root xs x.left s word l x true all
      resumes s is-s c e = (
        (λ z. (h, (r.1.1.0, resume_ends xs _ all (blocked_settled T root h (Pl.from_dist x.a) x.part x.k l) (rest (blocked T root h (Pl.from_dist x.a) x.part x.k l) (pick_true _ _ _ z))))),
        (λ z. rest (word_went f t root x.left word s l) (ap (λ (y : Stretch). word_went f t root x.left word y l) is-s ∙ ap (λ (y : Child End). on_child T go y (far_part x.part x.k) l) far_child ∙ pick_false _ _ _ z)),
      )
        where
          found : contents_on T (λ n. contents_from T 512 n (point_at x.part x.k)) (child_on nd (Pl.negated_side (Pl.from_dist x.a))) ≡ answer c
          found =
              sym (ap (contents_on T (λ n. contents_from T 512 n (point_at x.part x.k))) far_child)
              ∙ more_on T (point_at x.part x.k) (λ n. contents_from T x.left n (point_at x.part x.k)) (λ n. contents_from T 512 n (point_at x.part x.k))
              (λ n c e. look_more T (point_at x.part x.k) x.left 512 n r.0 c e) (child_of t.table word) c
              (sym (ap (λ (y : Stretch). word_look f t x.left word y.start) is-s) ∙ e)

          rest : (y : Went) → y ≡ beyond T go root nd h x.part (Pl.from_dist x.a) x.k l (answer c) → Resumes f t root xs y all
          rest y is_y = subst (λ (z : Went). Resumes f t root xs z all) (ap (beyond T go root nd h x.part (Pl.from_dist x.a) x.k l) found ∙ sym is_y) r.1.1.1

  -- ---- the line stands at a child

  module _ (xs : List Cut) (left : ℕ) (s : Stretch) (word : ℕ) (l : LineTrace) (x : Cut) (looked : Bool) (all : Went) (F : Follows f t root xs left s word l x looked all) where
    -- an end
    module _ (far : 32768 ≤ word) (c : BspLeafContents) (is_c : answer c ≡ contents_met f t word) where
      met : meet T (end_of t.table word) ≡ answer c
      unfolding contents_met
      met = sym is_c

      found : word_look f t left word s.start ≡ answer c
      found = ap (contents_on T (λ n. contents_from T left n s.start)) (word_end t.table word far) ∙ met

      pub end_blocks : looked && Contents.equal c Solid ≡ true → Blocks f t root x l all
      end_blocks z = (F c found).0 z

      pub end_goes : looked && Contents.equal c Solid ≡ false → (m : LineTrace) → m ≡ into c l → Resumes f t root xs (onward m) all
      end_goes z m is_m =
          subst (λ (y : Went). Resumes f t root xs y all)
          (ap (λ (y : Child End). on_child T (λ n s l. line_from T root left n s l) y s l) (word_end t.table word far) ∙ ap (into_leaf T l) met ∙ ap onward (sym is_m))
          ((F c found).1 z)

    -- where the way down comes to
    pub reach_end : (to : ℕ) → Reaches f t word left s (Some (N.End to)) → Follows f t root xs left s to l x looked all
    unfolding contents_met
    reach_end to N c e =
        let k = F c (sym N.2 ∙ sym (ap (contents_on T (λ n. contents_from T left n s.start)) (word_end t.table to N.0)) ∙ e) in
        (k.0, λ z. subst (λ (y : Went). Resumes f t root xs y all) (sym (N.1 root l) ∙ sym (ap (λ (y : Child End). on_child T (λ n s l. line_from T root left n s l) y s l) (word_end t.table to N.0))) (k.1 z))

    module _ (most : left ≤ 512) (w : WordsT) (a b : Float) (below : ℕ) (N : Reaches f t word left s (Some (N.Crossing w a b below))) where
      pub reach_plane : (k : Float) → k ≡ crossing a b → (y : Cut) → y ≡ record { w = w; left = below; a = a; k = k; part = s } → (part : Stretch) → part ≡ near_part s k → (to : ℕ) → to ≡ word_on w (Ieee.le zero32 a)
          → Follows f t root (y ∷ xs) below part to l x looked all
      reach_plane k is-k y is_y part is-part to is-to =
          rw (is_y, is-part, is-to) (λ c e.
          let j = F c (sym N.1 ∙ e) in
          (j.0, λ z. (omega (arith, N.0.falls, most), (N.0.plane, (N.0.read, subst (λ (v : Went). Resumes f t root xs v all) passing (j.1 z))))))
        where
          passing : word_went f t root left word s l ≡ past T (λ n s l. line_from T root below n s l) root (node_of t.table w) N.0.plane s (Pl.from_dist a) k (word_went f t root below (word_on w (Ieee.le zero32 a)) (near_part s k) l)
          passing =
              sym (N.0.says root l) ∙ sym (pick_false _ _ _ N.0.differ)
              ∙ ap (λ (v : Float). past T (λ n s l. line_from T root below n s l) root (node_of t.table w) N.0.plane s (Pl.from_dist a) v (on_child T (λ n s l. line_from T root below n s l) (child_on (node_of t.table w) (Pl.from_dist a)) (near_part s v) l)) (sym is-k)
              ∙ ap (λ (v : Child End). past T (λ n s l. line_from T root below n s l) root (node_of t.table w) N.0.plane s (Pl.from_dist a) k (on_child T (λ n s l. line_from T root below n s l) v (near_part s k) l)) (child_is t.table w (Ieee.le zero32 a))

-- what is read past the list's end
abbrev pub blank : Mark
blank = record { at = nan; point = []; held = 0 }

-- the last is not written
pub kept_last : (l : List Mark) (n : ℕ) (y : Mark) {q : Vector3} → 0 < n → n ≤ 10 → point_of (get_or l 10 blank).point ≡ q → point_of (get_or (set l (n - 1) y) 10 blank).point ≡ q
kept_last l n y h k e = ap (λ (z : Mark). point_of z.point) (get_or-set_other l (n - 1) 10 y blank (λ z. omega (arith, h, k, z))) ∙ e

-- ---- the list of the planes that wait: the nearest stands at n, the others behind it

pushed : {A : Type 0} (l : List A) (n : ℕ) (y : A) → 0 < n → n ≤ length l → drop (n - 1) (set l (n - 1) y) ≡ y ∷ drop n l
pushed l n y p h =
    drop-cons (set l (n - 1) y) (n - 1) y (rw (length-set l (n - 1) y) (omega arith))
    ∙ ap (λ z. z ∷ drop (suc (n - 1)) (set l (n - 1) y)) (get_or-set_same l (n - 1) y y (omega arith))
    ∙ ap (λ z. y ∷ z) (drop-set-lt (suc (n - 1)) l (n - 1) y (omega arith))
    ∙ ap (λ z. y ∷ drop z l) {x = suc (n - 1)} {y = n} (omega arith)

popped : {A : Type 0} (l : List A) (n : ℕ) (d : A) → n < length l → drop n l ≡ get_or l n d ∷ drop (n + 1) l
popped l n d h = drop-cons l n d h ∙ ap (λ z. get_or l n d ∷ drop z l) {x = suc n} {y = n + 1} (omega arith)

-- the planes that wait, as they are kept, and then the end of the whole line s
abbrev KeptAll : Stretch → List Cut → List Mark → Type 0
KeptAll s [] [] = ⊥
KeptAll s [] (e ∷ []) = Tip s.to s.end e
KeptAll s [] (e ∷ y ∷ ys) = ⊥
KeptAll s (x ∷ xs) [] = ⊥
KeptAll s (x ∷ xs) (y ∷ ys) = Kept x y × KeptAll s xs ys

-- the fraction and the point at which the line ends before all planes that wait; s is the whole line
abbrev fraction_to : Stretch → List Cut → Float
fraction_to s [] = s.to
fraction_to s (x ∷ xs) = fraction_at x.part x.k

abbrev point_to : Stretch → List Cut → Vector3
point_to s [] = s.end
point_to s (x ∷ xs) = point_at x.part x.k

-- each part that a plane cuts ends where the next plane is crossed
abbrev Chain : Stretch → List Cut → Type 0
Chain s [] = Unit {0}
Chain s (x ∷ xs) = (x.part.to ≡ fraction_to s xs) × (x.part.end ≡ point_to s xs) × Chain s xs

-- a part ends at the first of them
first_ends : (s : Stretch) (xs : List Cut) (y : Mark) (ys : List Mark) → KeptAll s xs (y ∷ ys) → (y.at ≡ fraction_to s xs) × (point_of y.point ≡ point_to s xs)
first_ends s [] y [] k = k
first_ends s [] y (z ∷ ys) k = absurd k
first_ends s (x ∷ xs) y ys k = (k.0.at_is, k.0.point_is)

none_waits : (s : Stretch) (xs : List Cut) (y : Mark) → KeptAll s xs (y ∷ []) → xs ≡ []
none_waits s [] y k = refl
none_waits s (x ∷ []) y k = absurd k.1
none_waits s (x ∷ z ∷ xs) y k = absurd k.1

-- beyond the plane x, which is kept as z, it is the far part of what x cuts
far_is : (whole : Stretch) (x : Cut) (z : Mark) → Kept x z → (xs : List Cut) (y : Mark) → (y.at ≡ fraction_to whole xs) × (point_of y.point ≡ point_to whole xs)
    → x.part.to ≡ fraction_to whole xs → x.part.end ≡ point_to whole xs
    → beyond_it z y ≡ record { word = word_on x.w (not (Ieee.le zero32 x.a)); left = x.left; part = far_part x.part x.k }
far_is whole x z K xs y e to_is end_is = rw (K.word_is, K.left_is, K.at_is, K.point_is, e.0, e.1, to_is, end_is) refl

-- the line stands at a child, and the planes that are kept in ys wait; y: the plane that was passed last, if any was
pub record Standing (f : List ℕ) (t : Tables) (root : ℕ) (whole : Stretch) (ys : List Mark) (at : Stand) (l : LineTrace) (y : Mark) (looked : Bool) (all : Went) : Type 0 where
  pub xs : List Cut
  pub its_planes : KeptAll whole xs ys
  pub chain : Chain whole xs
  pub to_is : at.part.to ≡ fraction_to whole xs
  pub end_is : at.part.end ≡ point_to whole xs
  pub x : Cut
  pub passed : looked ≡ true → Kept x y
  pub follows : Follows f t root xs at.left at.part at.word l x looked all

looked_at : (looked b : Bool) → looked && b ≡ true → looked ≡ true
looked_at true b e = refl
looked_at false b e = e

module _ {f : List ℕ} {t : Tables} {root : ℕ} {whole : Stretch} {at : Stand} {l : LineTrace} {y : Mark} {looked : Bool} {all : Went} {ys : List Mark} where
  -- where the line stands once it has come to an end
  at_end : Standing f t root whole ys at l y looked all → {w : ℕ} → Reaches f t at.word at.left at.part (Some (N.End w))
      → (32768 ≤ w) × Standing f t root whole ys (record { word = w; left = at.left; part = at.part }) l y looked all
  at_end S {w} e = (
    e.0,
    record {
      xs = S.xs;
      its_planes = S.its_planes;
      chain = S.chain;
      to_is = S.to_is;
      end_is = S.end_is;
      x = S.x;
      passed = S.passed;
      follows = reach_end f t root S.xs at.left at.part at.word l S.x looked all S.follows w e;
    },
  )

-- a turn comes to what is met at the end that it comes to
pub turned : (f : List ℕ) (t : Tables) (at : Stand) (n : ℕ) (looked : Bool) (w : ℕ) → Reaches f t at.word at.left at.part (Some (N.End w)) → (r : Option Turn) → Met f t w n looked r → Turned f t at n looked r
turned f t at n looked w e (Some (U.Into m)) k = (w, (e, k))
turned f t at n looked w e (Some U.Blocked) k = (w, (e, k))
turned f t at n looked w e (Some (U.Crossing _ _ _ _)) k = absurd k
turned f t at n looked w e None k = tt

pub few_met : (f : List ℕ) (t : Tables) (at : Stand) (seen : ℕ) (looked : Bool) {m : ℕ} {r : Turn} → Turned f t at seen looked (Some r) → r ≡ U.Into m → m < 8
few_met f t at seen looked {m} K e = let I : Turned f t at seen looked (Some (U.Into m)) = rw e at K in I.1.1.0

module _ {f : List ℕ} {t : Tables} {root : ℕ} {whole : Stretch} {at : Stand} (q : Vector3) (seen : ℕ) {y : Mark} {looked : Bool} {all : Went} where
  -- the line is blocked
  pub is_stopped : {ys : List Mark} → Standing f t root whole ys at (seen_line q seen) y looked all → {r : Turn} → Turned f t at seen looked (Some r) → r ≡ U.Blocked
      → (x : Cut) × (Kept x y × Blocks f t root x (seen_line q seen) all)
  is_stopped S K e =
      let B : Turned f t at seen looked (Some U.Blocked) = rw e at K in
      let E = at_end S B.1.0 in
      let M = B.1.1 in
      let Z = E.1 in
      (Z.x, (Z.passed (looked_at looked _ M.1.1), end_blocks f t root Z.xs at.left at.part B.0 (seen_line q seen) Z.x looked all Z.follows E.0 M.0 M.1.0 M.1.1))

  -- a leaf is traced into
  goes_into : {ys : List Mark} → Standing f t root whole ys at (seen_line q seen) y looked all → {m : ℕ} {r : Turn} → Turned f t at seen looked (Some r) → r ≡ U.Into m
      → (xs : List Cut) × (KeptAll whole xs ys × Chain whole xs × Resumes f t root xs (onward (seen_line q m)) all)
  goes_into S {m} K e =
      let I : Turned f t at seen looked (Some (U.Into m)) = rw e at K in
      let E = at_end S I.1.0 in
      let M = I.1.1.1 in
      let Z = E.1 in
      (Z.xs, (Z.its_planes, Z.chain, end_goes f t root Z.xs at.left at.part I.0 (seen_line q seen) Z.x looked all Z.follows E.0 M.0 M.1.0 M.1.1 (seen_line q m) (M.1.2 q)))

  module _ (stack : List Mark) (n : ℕ) (S : Standing f t root whole (drop n stack) at (seen_line q seen) y looked all) {r : Turn} (K₀ : Turned f t at seen looked (Some r)) where
    -- a plane that is crossed: fewer calls are left below it; it is put before the others, and the line goes on before it
    module _ {w : WordsT} {front : Bool} {left : ℕ} {near : Stretch} (e : r ≡ U.Crossing w front left near) (most : at.left ≤ 512) where
      crossing_lem : Turned f t at seen looked (Some (U.Crossing w front left near))
      crossing_lem = rw e at K₀

      pub fewer_left : left ≤ 512
      fewer_left = omega (arith, crossing_lem.1.1.2.0.falls, most)

      put : n ≤ length stack → 0 < n → {z : Mark} → Keeps w front left near z → (x₀ : Mark) → at.part.from ≡ x₀.at → at.part.start ≡ point_of x₀.point
          → (left ≤ 512) × Standing f t root whole (drop (n - 1) (set stack (n - 1) z)) (stands (word_on w front) left x₀ z) (seen_line q seen) y looked all
      put more room {z} Z x₀ from_is start_is =
          let C = crossing_lem in
          let a = C.0 in
          let b = C.1.0 in
          let k = crossing a b in
          let cut : Cut = record { w = w; left = left; a = a; k = k; part = at.part } in
          let in_front_lem = C.1.1.0 in
          let is_near = C.1.1.1 in
          let part_is : part_from x₀ z ≡ near = rw (← from_is, ← start_is, Z.at_is, Z.point_is, is_near) refl in
          let here : Kept cut z = subst (λ (s : Stretch). Keeps w (Ieee.le zero32 a) left s z) is_near (subst (λ (c : Bool). Keeps w c left near z) in_front_lem Z) in (
            fewer_left,
            record {
              xs = cut ∷ S.xs;
              its_planes = subst (KeptAll whole (cut ∷ S.xs)) (sym (pushed stack n z room more)) (here, S.its_planes);
              chain = (S.to_is, S.end_is, S.chain);
              to_is = Z.at_is ∙ ap (λ (s : Stretch). s.to) is_near;
              end_is = Z.point_is ∙ ap (λ (s : Stretch). s.end) is_near;
              x = S.x;
              passed = S.passed;
              follows =
                  subst (λ (s : Stretch). Follows f t root (cut ∷ S.xs) left s (word_on w front) (seen_line q seen) S.x looked all) (sym part_is)
                  (reach_plane f t root S.xs at.left at.part at.word (seen_line q seen) S.x looked all S.follows most w a b left C.1.1.2 k refl cut refl near is_near (word_on w front) (ap (word_on w) in_front_lem));
            },
          )

      pub push : n ≤ length stack → 0 < n → {z : Mark} → Keeps w front left near z → (x₀ : Mark) → at.part.from ≡ x₀.at → at.part.start ≡ point_of x₀.point → {word : ℕ} → word ≡ word_on w front
          → (left ≤ 512) × Standing f t root whole (drop (n - 1) (set stack (n - 1) z)) (stands word left x₀ (get_or (set stack (n - 1) z) (n - 1) blank)) (seen_line q seen) y looked all
      push more room {z} Z x₀ from_is start_is is_word =
          let P = put more room Z x₀ from_is start_is in
          (P.0, rw (is_word, get_or-set_same stack (n - 1) z blank (omega (arith, more, room))) P.1)

    -- a leaf is traced into
    module _ {m : ℕ} (e : r ≡ U.Into m) (d : Mark) where
      -- none waits
      pub last : length stack ≡ n + 1 → onward (seen_line q m) ≡ all
      last h = let X = goes_into S K₀ e in by X.0 (subst (KeptAll whole X.0) (popped stack n d (omega arith) ∙ ap (λ z. get_or stack n d ∷ z) (drop_of_length-le stack (omega arith))) X.1.0) X.1.2
        where
          by : (xs : List Cut) → KeptAll whole xs (get_or stack n d ∷ []) → Resumes f t root xs (onward (seen_line q m)) all → onward (seen_line q m) ≡ all
          by xs k r = subst (λ (z : List Cut). Resumes f t root z (onward (seen_line q m)) all) (none_waits whole xs (get_or stack n d) k) r

      -- the first is taken, and the line goes on beyond it
      past_it : (z v : Mark) (rest : List Mark) (xs : List Cut) → KeptAll whole xs (z ∷ v ∷ rest) → Chain whole xs → Resumes f t root xs (onward (seen_line q m)) all
          → ((beyond_it z v).left ≤ 512) × Standing f t root whole (v ∷ rest) (beyond_it z v) (seen_line q m) z true all
      past_it z v rest [] k c r = absurd k
      past_it z v rest (x ∷ xs) k c r =
          let E = first_ends whole xs v rest k.1 in
          subst (λ (s : Stand). (s.left ≤ 512) × Standing f t root whole (v ∷ rest) s (seen_line q m) z true all) (sym (far_is whole x z k.0 xs v E c.0 c.1)) (
            r.0,
            record {
              xs = xs;
              its_planes = k.1;
              chain = c.2;
              to_is = c.0;
              end_is = c.1;
              x = x;
              passed = λ e. k.0;
              follows = resumes f t root x xs (seen_line q m) all r _ refl _ refl;
            },
          )

      pub pop : n + 1 < length stack
          → ((beyond_it (get_or stack n d) (get_or stack (n + 1) d)).left ≤ 512) × Standing f t root whole (drop (n + 1) stack) (beyond_it (get_or stack n d) (get_or stack (n + 1) d)) (seen_line q m) (get_or stack n d) true all
      pop h =
          let X = goes_into S K₀ e in
          let two = popped stack (n + 1) d h in
          let P = past_it (get_or stack n d) (get_or stack (n + 1) d) (drop (n + 1 + 1) stack) X.0 (subst (KeptAll whole X.0) (popped stack n d (omega arith) ∙ ap (λ z. get_or stack n d ∷ z) two) X.1.0) X.1.1 X.1.2 in
          (P.0, subst (λ (ys : List Mark). Standing f t root whole ys (beyond_it (get_or stack n d) (get_or stack (n + 1) d)) (seen_line q m) (get_or stack n d) true all) (sym two) P.1)

-- before anything is met
pub starts : (f : List ℕ) (t : Tables) (root : ℕ) (at : Stand) (y e : Mark) → Tip at.part.to at.part.end e → {now : Stand} → now ≡ at
    → Standing f t root at.part (e ∷ []) now (seen_line at.part.end 0) y false (word_went f t root at.left at.word at.part (unset at.part.end))
starts f t root at y e K h =
    rw h (record {
      xs = [];
      its_planes = K;
      chain = tt;
      to_is = refl;
      end_is = refl;
      x = record { w = record { plane = 0; both = 0 }; left = 0; a = zero32; k = zero32; part = at.part };
      passed = λ e. cc;
      follows = λ c e. ((λ z. cc), λ z. refl);
    })

-- from the root
from_root : (g : Ground) (s : Stretch) (l : LineTrace) → g.root < 32768 → word_went g.s.now g.t g.root 512 g.root s l ≡ line_from (Fast.table g.s.now g.t) g.root 512 g.root s l
from_root g s l h = ap (λ (y : Child End). on_child (Fast.table g.s.now g.t) (λ n s l. line_from (Fast.table g.s.now g.t) g.root 512 n s l) y s l) (word_node g.t.table g.root h)

-- where the whole line comes to
module _ (g : Ground) (p q : Vector3) (h : g.root < 32768) where
  abbrev first : Stand
  first = from_start g.root p q

  whole_line_lem : stand_went g first ≡ all_went g.s.now g.t g.root p q
  whole_line_lem = from_root g (stretch zero32 one32 p q) (unset q) h

  module _ {r : Came} (is-r : Arrives g first (Some r)) where
    pub came_through : {e : Vector3} {m : ℕ} → r ≡ C.Through e m → {l : LineTrace} → l ≡ seen_line e m → answer l ≡ line_answer (all_went g.s.now g.t g.root p q)
    came_through e is_l = ap line_answer (ap onward is_l ∙ rw e at is-r ∙ whole_line_lem)

    pub came_blocked : {y : Mark} {e : Vector3} {m : ℕ} → r ≡ C.Blocked y e m → {l : LineTrace} → l ≡ seen_line e m → (o : Option LineTrace) → Stops g y l o → AtOnce (line_answer (all_went g.s.now g.t g.root p q)) o
    came_blocked {y} {e} {m} z {l} is_l o h = let I : Arrives g first (Some (C.Blocked y e m)) = rw z at is-r in by o h I
      where
        by : (o : Option LineTrace) → Stops g y l o → Arrives g first (Some (C.Blocked y e m)) → AtOnce (line_answer (all_went g.s.now g.t g.root p q)) o
        by None h I = tt
        by (Some k) h I =
            let (x, (K, (hp, (is-h, B)))) = I in
            ap line_answer (h x K hp is-h ∙ ap (λ (v : LineTrace). blocked (Fast.table g.s.now g.t) g.root hp (Pl.from_dist x.a) x.part x.k v) is_l ∙ B ∙ whole_line_lem)

-- ---- where a line that is blocked stops

pub stops_there : (g : Ground) (l : LineTrace) {y : Mark} (x : Cut) (K : Kept x y) (h : Hyperplane) → plane_in g.s.now g.t x.w.plane ≡ answer h → l.all_solid ≡ false
    → {point : Vector3} → point ≡ point_of y.point → {i : Hyperplane} → answer i ≡ plane_in g.s.now g.t (y.held / 4294967296) → {c : BspLeafContents} → answer c ≡ contents_from (Fast.table g.s.now g.t) 512 g.root point → Contents.equal c Solid ≡ false
    → {front : Bool} → front ≡ from_front y → {lp : LinePlane} → lp ≡ plane_from (Pl.side_if front) i → {m : LineTrace} → m ≡ with_plane lp l → {n : LineTrace} → n ≡ ended y.at point m
    → stopped n ≡ blocked (Fast.table g.s.now g.t) g.root h (Pl.from_dist x.a) x.part x.k l
stops_there g l {y} x K h is-h free {point} is-p {i} is-i {c} is_c z is_front is-lp {m} is_m is_n =
    ap stopped (is_n ∙ rw (K.at_is, is-p ∙ K.point_is))
    ∙ back_open (Fast.table g.s.now g.t) g.root x.part m 10 x.k (omega arith) (is-p ∙ K.point_is) is_c z
    ∙ blocked_by (Fast.table g.s.now g.t) g.root (Pl.from_dist x.a) x.part x.k l h free (ap (plane_in g.s.now g.t) K.plane_is ∙ is-h) is-i
    (is-lp ∙ ap (λ (b : Bool). plane_from (Pl.side_if b) i) (is_front ∙ K.side_is)) is_m
