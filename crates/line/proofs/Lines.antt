-- Each way through a step of the whole-line trace, by what the calls answer. Assumes nothing.
use Rattle.std.specs.Prelude.{Result, Ok, Err}
use Prim.Native.Nat.{ℕ, zero, suc, ◌-◌, ◌<◌, ◌≤◌}
use native.Mathlib.Omega.{arith}
use mathlib.Core.Path.{◌≡◌, refl, sym, ap, ◌∙◌}
use mathlib.Core.Bool.{Bool, true, false, not, beq}
use mathlib.Core.List.{List}
use borrow.Author.Tests.{lt-ltb, le-ltb}
use lib.Ieee as Ieee
use lib.Ieee.{Float}
use Rattle.format.specs.Answer as Ans
use Rattle.format.specs.Answer.{Answer, answer}
use Rattle.format.specs.Contents as Contents
use Rattle.format.specs.Refusal.{number_of}
use Rattle.format.specs.declared.refusal.Refusal.{Refusal}
use Rattle.format.specs.declared.contents.BspLeafContents.{BspLeafContents}
use Rattle.format.specs.declared.contents.BspLeafContents.TheVariants.{Solid}
use Rattle.math.specs.Vector.{zero32}
use Rattle.math.specs.Plane as Pl
use Rattle.math.specs.declared.vector.Vector3.{Vector3}
use Rattle.math.specs.declared.plane.Hyperplane.{Hyperplane}
use Rattle.math.specs.declared.plane.HyperplaneSide.{HyperplaneSide}
use Rattle.walk.specs.Table.{Child, Node, Table, child_on}
use Rattle.walk.specs.Walk.{enter}
use Rattle.nodes.specs.Tables.{End}
use Rattle.nodes.specs.Fast.{node_of, child_of, word_on, contents_met}
use Rattle.nodes.specs.Fast as Fast
use Rattle.nodes.specs.declared.table.Tables.{Tables}
use Rattle.nodes.specs.declared.read.Words.{Words as WordsT}
use Rattle.nodes.proofs.Entering.{child_is, child_node, child_end}
use Rattle.line.specs.Line.{Went, onward, refused, near_part, far_part, point_at, crossing, into, plane_from, with_plane, contents_below, back_off, into_leaf, on_child, blocked, beyond, past, across, line_at, line_from}
use Rattle.line.specs.Private.{went_of, Crossed, Beyond, child_at, contents_beside, child_went, far_went, word_went}
use Rattle.line.specs.declared.ground.Ground.{Ground}
use Rattle.line.specs.declared.state.Stretch.{Stretch}
use Rattle.line.specs.declared.state.LinePlane.{LinePlane}
use Rattle.line.specs.declared.state.LineTrace.{LineTrace}
use Rattle.line.specs.declared.tracing.Going.{Going}
use Rattle.line.specs.declared.tracing.Going.TheVariants as G
use Rattle.line.specs.declared.tracing.Far.{Far}
use Rattle.line.specs.declared.tracing.Far.TheVariants as F
use Rattle.line.proofs.States.{pick_true, pick_false}
use Rattle.line.proofs.Looks.{beside_end}
use Rattle.line.proofs.Seen.{Opened, Closed, outside, spent, unread}

-- ---- the two sides by the distances

same_is : (x y : Bool) → not (beq x y) ≡ false → Pl.same_side (Pl.side_if x) (Pl.side_if y) ≡ true
same_is true true e = refl
same_is true false e = cc
same_is false true e = cc
same_is false false e = refl

differ_is : (x y : Bool) → not (beq x y) ≡ true → Pl.same_side (Pl.side_if x) (Pl.side_if y) ≡ false
differ_is true true e = cc
differ_is true false e = refl
differ_is false true e = refl
differ_is false false e = cc

same_bits : (z x y : Bool) → x ≡ z → y ≡ z → not (beq x y) ≡ false
same_bits true x y p q = rw (p, q) refl
same_bits false x y p q = rw (p, q) refl

other_bits : (z x y : Bool) → x ≡ z → y ≡ not z → not (beq x y) ≡ true
other_bits true x y p q = rw (p, q) refl
other_bits false x y p q = rw (p, q) refl

-- as tests one after the other tell it: both ends on one side, and the child's word there; or the ends on two sides
abbrev pub OnOne : Float → Float → WordsT → ℕ → Type 0
OnOne a b w word = (not (beq (Ieee.le zero32 a) (Ieee.le zero32 b)) ≡ false) × (word ≡ word_on w (Ieee.le zero32 a))

pub on_one : (a b : Float) (w : WordsT) (x : Bool) → Ieee.le zero32 a ≡ x → Ieee.le zero32 b ≡ x → {word r : ℕ} → r ≡ word_on w x → word ≡ r → OnOne a b w word
on_one a b w x p q e f = (same_bits x (Ieee.le zero32 a) (Ieee.le zero32 b) p q, f ∙ e ∙ ap (word_on w) (sym p))

pub on_two : (a b : Float) (x : Bool) → Ieee.le zero32 a ≡ x → Ieee.le zero32 b ≡ not x → not (beq (Ieee.le zero32 a) (Ieee.le zero32 b)) ≡ true
on_two a b x p q = other_bits x (Ieee.le zero32 a) (Ieee.le zero32 b) p q

pub other_side : (x : Bool) → Pl.side_if (not x) ≡ Pl.negated_side (Pl.side_if x)
other_side true = refl
other_side false = refl

-- ---- the child that a word stands for

module _ (f : List ℕ) (t : Tables) (root left : ℕ) (w : WordsT) (b : Bool) (s : Stretch) (l : LineTrace) {word : ℕ} (is_word : word ≡ word_on w b) where
  abbrev T₀ : Table End BspLeafContents
  T₀ = Fast.table f t

  abbrev go₀ : ℕ → Stretch → LineTrace → Went
  go₀ = λ n s l. line_from T₀ root left n s l

  pub child_line : word < 32768 → {near : Stretch} → near ≡ s → line_from T₀ root left word near l ≡ child_went f t root left w b s l
  unfolding child_went
  child_line h e = ap (λ (y : Stretch). line_from T₀ root left word y l) e ∙ sym (ap (λ (c : Child End). on_child T₀ go₀ c s l) (child_node t.table w b word is_word h))

  pub child_met : 32768 ≤ word → {a : Answer BspLeafContents} → a ≡ contents_met f t word → into_leaf T₀ l a ≡ child_went f t root left w b s l
  unfolding child_went contents_met
  child_met h is-a = ap (into_leaf T₀ l) is-a ∙ sym (ap (λ (c : Child End). on_child T₀ go₀ c s l) (child_end t.table w b word is_word h))

-- ---- the far side is solid

module _ {En : Type 0} (T : Table En BspLeafContents) (root : ℕ) (side : HyperplaneSide) (s : Stretch) (k : Float) (l : LineTrace) (h : Hyperplane) where
  pub blocked_by : l.all_solid ≡ false → {a : Answer Hyperplane} → a ≡ answer h → {g : Hyperplane} → answer g ≡ a → {lp : LinePlane} → lp ≡ plane_from side g → {m : LineTrace} → m ≡ with_plane lp l
      → back_off T 10 root s k m ≡ blocked T root h side s k l
  blocked_by z read {g} is_g is-lp is_m =
      let same : g ≡ h = cc (is_g, read) in
      ap (back_off T 10 root s k) (is_m ∙ ap (λ (y : LinePlane). with_plane y l) (is-lp ∙ ap (plane_from side) same)) ∙ simp z

-- ---- at a node

module _ {En : Type 0} (T : Table En BspLeafContents) (root : ℕ) (s : Stretch) (l : LineTrace) where
  line_outside : (k i : ℕ) → T.nodes.count ≤ i → line_from T root k i s l ≡ refused 30
  unfolding line_from
  line_outside zero i h = simp (le-ltb _ _ h)
  line_outside (suc k) i h = simp (le-ltb _ _ h)

  line_spent : (k i : ℕ) → k ≡ 0 → i < T.nodes.count → line_from T root k i s l ≡ refused 32
  unfolding line_from
  line_spent k i z h = rw z (simp (lt-ltb _ _ h))

  pub line_step : (k j i : ℕ) → k ≡ suc j → i < T.nodes.count → line_from T root k i s l ≡ line_at T (λ n s l. line_from T root j n s l) root s l (enter T i)
  unfolding line_from
  line_step k j i more h = rw more (simp (lt-ltb _ _ h))

-- a node traced with so many calls left
abbrev onto : List ℕ → Tables → ℕ → ℕ → ℕ → Stretch → LineTrace → Went
onto f t root left = λ n s l. line_from (Fast.table f t) root left n s l

steps : (f : List ℕ) (t : Tables) (root k i : ℕ) (s : Stretch) (l : LineTrace) → (k ≡ 0 → ⊥) → i < t.nodes.count
    → line_from (Fast.table f t) root k i s l ≡ line_at (Fast.table f t) (onto f t root (k - 1)) root s l (enter (Fast.table f t) i)
steps f t root k i s l z h = line_step (Fast.table f t) root s l k (k - 1) i (omega (arith, z)) h

-- a node that is refused
pub line_closed : {f : List ℕ} {t : Tables} {i k n : ℕ} (root : ℕ) (s : Stretch) (l : LineTrace) → Closed f t i k n → refused n ≡ line_from (Fast.table f t) root k i s l
line_closed {f} {t} {i} {k} root s l (outside h e) = ap refused e ∙ sym (line_outside (Fast.table f t) root s l k i h)
line_closed {f} {t} {i} {k} root s l (spent h z e) = ap refused e ∙ sym (line_spent (Fast.table f t) root s l k i z h)
line_closed {f} {t} {i} {k} root s l (unread h z m) = sym (steps f t root k i s l z h ∙ ap (line_at (Fast.table f t) (onto f t root (k - 1)) root s l) m)

module _ {f : List ℕ} {t : Tables} {k i : ℕ} (root : ℕ) (s : Stretch) (l : LineTrace) {w : WordsT} {a b : Float} (O : Opened f t i k s.start s.end w a b) where
  enters : across (Fast.table f t) (onto f t root (k - 1)) root (node_of t.table w) O.plane s a b l ≡ line_from (Fast.table f t) root k i s l
  enters =
      let at = across (Fast.table f t) (onto f t root (k - 1)) root (node_of t.table w) O.plane s in
      sym (steps f t root k i s l O.left O.in_range ∙ ap (line_at (Fast.table f t) (onto f t root (k - 1)) root s l) O.entered
      ∙ ap (λ (d : Float). at d (Pl.point_dist O.plane s.end) l) O.first
      ∙ ap (λ (d : Float). at a d l) O.second)

  -- both ends on one side: on to the child, with the same ends
  module _ (same : not (beq (Ieee.le zero32 a) (Ieee.le zero32 b)) ≡ false) {word : ℕ} (is_word : word ≡ word_on w (Ieee.le zero32 a)) where
    on_child_lem : on_child (Fast.table f t) (onto f t root (k - 1)) (child_at t w (Ieee.le zero32 a)) s l ≡ line_from (Fast.table f t) root k i s l
    on_child_lem = pick_true _ _ _ (same_is (Ieee.le zero32 a) (Ieee.le zero32 b) same) ∙ enters

    pub to_child : word_went f t root (k - 1) word s l ≡ line_from (Fast.table f t) root k i s l
    to_child =
        sym (ap (λ (c : Child End). on_child (Fast.table f t) (onto f t root (k - 1)) c s l) (child_is t.table w (Ieee.le zero32 a) ∙ ap (child_of t.table) (sym is_word))) ∙ on_child_lem

    pub goes_on : word < 32768 → line_from (Fast.table f t) root (k - 1) word s l ≡ line_from (Fast.table f t) root k i s l
    goes_on h = sym (ap (λ (c : Child End). on_child (Fast.table f t) (onto f t root (k - 1)) c s l) (child_node t.table w (Ieee.le zero32 a) word is_word h)) ∙ on_child_lem

    pub in_end : 32768 ≤ word → into_leaf (Fast.table f t) l (contents_met f t word) ≡ line_from (Fast.table f t) root k i s l
    unfolding contents_met
    in_end h = sym (ap (λ (c : Child End). on_child (Fast.table f t) (onto f t root (k - 1)) c s l) (child_end t.table w (Ieee.le zero32 a) word is_word h)) ∙ on_child_lem

-- ---- on the way down

-- a crossing, as it is met at the node i
pub crosses_here : {f : List ℕ} {t : Tables} {k i : ℕ} {s : Stretch} {w : WordsT} {a b : Float} → Opened f t i k s.start s.end w a b
    → not (beq (Ieee.le zero32 a) (Ieee.le zero32 b)) ≡ true → {n : ℕ} → k ≤ n → {all : ℕ → LineTrace → Went} → ((root : ℕ) (l : LineTrace) → line_from (Fast.table f t) root k i s l ≡ all root l)
    → Crossed f t n s w a b (k - 1) all
crosses_here {s = s} {a = a} {b = b} O d h same = record {
  plane = O.plane;
  read = O.read;
  falls = omega (arith, O.left);
  differ = differ_is (Ieee.le zero32 a) (Ieee.le zero32 b) d;
  says = λ root l. enters root s l O ∙ same root l;
}

-- ---- beyond a plane, by the contents of the far side at the crossing

module _ (g : Ground) (w : WordsT) (front : Bool) (s : Stretch) (k : Float) (l : LineTrace) {p : Vector3} (is-p : p ≡ point_at s k) (h : Hyperplane) (go : ℕ → Stretch → LineTrace → Went) where
  abbrev T₂ : Table End BspLeafContents
  T₂ = Fast.table g.s.now g.t

  abbrev rest : Answer BspLeafContents → Went
  rest = beyond T₂ go g.root (node_of g.t.table w) h s (Pl.side_if front) k l

  abbrev far : Went
  far = rest (contents_beside g.s.now g.t w (not front) (point_at s k))

  found : rest (contents_beside g.s.now g.t w (not front) p) ≡ far
  found = ap (λ (q : Vector3). rest (contents_beside g.s.now g.t w (not front) q)) is-p

  pub far_unread : {n : ℕ} → Ans.refused n ≡ contents_beside g.s.now g.t w (not front) p → refused n ≡ far
  far_unread q = ap rest q ∙ found

  module _ {c : BspLeafContents} (q : answer c ≡ contents_beside g.s.now g.t w (not front) p) where
    met : rest (answer c) ≡ far
    met = ap rest q ∙ found

    pub far_solid : Contents.equal c Solid ≡ true → blocked T₂ g.root h (Pl.side_if front) s k l ≡ far
    far_solid y = pick_true _ _ _ y ∙ met

    module _ (y : Contents.equal c Solid ≡ false) {word : ℕ} (is_word : word ≡ word_on w (not front)) where
      far_open : on_child T₂ go (child_at g.t w (not front)) (far_part s k) l ≡ far
      far_open =
          ap (λ (u : HyperplaneSide). on_child T₂ go (child_on (node_of g.t.table w) u) (far_part s k) l) (other_side front) ∙ pick_false _ _ _ y ∙ met

      pub far_node : word < 32768 → go word (far_part s k) l ≡ far
      far_node h = sym (ap (λ (c : Child End). on_child T₂ go c (far_part s k) l) (child_node g.t.table w (not front) word is_word h)) ∙ far_open

      -- a leaf has the contents that were looked for
      pub far_leaf : 32768 ≤ word → onward (into c l) ≡ far
      unfolding contents_met
      far_leaf h =
          ap (into_leaf T₂ l) (q ∙ sym (beside_end g.s.now g.t w (not front) p is_word h))
          ∙ sym (ap (λ (c : Child End). on_child T₂ go c (far_part s k) l) (child_end g.t.table w (not front) word is_word h)) ∙ far_open

-- ---- at a crossing

module _ (g : Ground) (l : LineTrace) {k : ℕ} {s : Stretch} {w : WordsT} {a b : Float} {left : ℕ} {all : ℕ → LineTrace → Went} (C : Crossed g.s.now g.t k s w a b left all) where
  abbrev T₁ : Table End BspLeafContents
  T₁ = Fast.table g.s.now g.t

  abbrev go₁ : ℕ → Stretch → LineTrace → Went
  go₁ = λ n s l. line_from T₁ g.root left n s l

  abbrev nd : Node End
  nd = node_of g.t.table w

  abbrev front : Bool
  front = Ieee.le zero32 a

  abbrev whole : Went
  whole = all g.root l

  module _ {x : Float} (is_x : x ≡ crossing a b) where
    passed : (near : Went) → near ≡ child_went g.s.now g.t g.root left w front (near_part s x) l → past T₁ go₁ g.root nd C.plane s (Pl.side_if front) x near ≡ whole
    unfolding child_went
    passed near is_near =
        ap (past T₁ go₁ g.root nd C.plane s (Pl.side_if front) x) is_near
        ∙ ap (λ (y : Float). past T₁ go₁ g.root nd C.plane s (Pl.side_if front) y (on_child T₁ go₁ (child_at g.t w front) (near_part s y) l)) is_x
        ∙ pick_false _ _ _ C.differ ∙ C.says g.root l

    -- the near side is refused
    pub near_fails : {n : ℕ} → refused n ≡ child_went g.s.now g.t g.root left w front (near_part s x) l → refused n ≡ whole
    near_fails e = passed (refused _) e

    -- it ends the trace
    pub near_ends : (near : Going) → went_of (Ok near) ≡ child_went g.s.now g.t g.root left w front (near_part s x) l → ((m : LineTrace) → near ≡ G.On m → ⊥) → went_of (Ok near) ≡ whole
    near_ends near is_near none = by near none ∙ passed _ is_near
      where
        by : (y : Going) → ((m : LineTrace) → y ≡ G.On m → ⊥) → went_of (Ok y) ≡ past T₁ go₁ g.root nd C.plane s (Pl.side_if front) x (went_of (Ok y))
        by (G.On m) none = absurd (none m refl)
        by (G.Stopped m) none = refl

    -- it was traced: what `beyond` says of the far side
    module _ {near : Going} {m : LineTrace} (is_near : went_of (Ok near) ≡ child_went g.s.now g.t g.root left w front (near_part s x) l) (is-on : near ≡ G.On m) where
      goes : (r : Result Far Refusal) → Beyond g w front s x m r → far_went go₁ (far_part s x) m r ≡ whole
      unfolding contents_beside
      goes r is-r =
          is-r C.plane C.read go₁
          ∙ ap (λ (y : HyperplaneSide). beyond T₁ go₁ g.root nd C.plane s (Pl.side_if front) x m (contents_below T₁ (child_on nd y) (point_at s x))) (other_side front)
          ∙ sym (ap (λ (y : Going). past T₁ go₁ g.root nd C.plane s (Pl.side_if front) x (went_of (Ok y))) is-on) ∙ passed _ is_near

      pub far_fails : (e : Refusal) → Beyond g w front s x m (Err e) → refused (number_of e) ≡ whole
      far_fails e is-r = goes (Err e) is-r

      module _ {r : Far} (is-r : Beyond g w front s x m (Ok r)) where
        pub far_ends : {y : Going} → r ≡ F.Ended y → went_of (Ok y) ≡ whole
        far_ends q = sym (ap (λ (z : Far). far_went go₁ (far_part s x) m (Ok z)) q) ∙ goes (Ok r) is-r

        pub far_goes : {n : ℕ} → r ≡ F.Node n → {fp : Stretch} → fp ≡ far_part s x → line_from T₁ g.root left n fp m ≡ whole
        far_goes {n} q is-fp = ap (λ (y : Stretch). line_from T₁ g.root left n y m) is-fp ∙ sym (ap (λ (z : Far). far_went go₁ (far_part s x) m (Ok z)) q) ∙ goes (Ok r) is-r
