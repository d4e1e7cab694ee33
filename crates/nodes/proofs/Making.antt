-- What is made of a node and its plane: by the readers of any table, and by the bytes of sections that are whole.
-- Assumes nothing.
use Rattle.std.proofs.Common.{Ok, Err}
use Rattle.std.specs.Prelude.{Result}
use Rattle.std.specs.Borrow.{Bor}
use Rattle.format.specs.Answers.{answer_of}
use Rattle.nodes.specs.declared.read.Words.{Words}
use Rattle.std.proofs.Common.{◌≡◌, ℕ, ◌+◌, ◌*◌, ◌/◌, ◌<◌, ◌≤◌, Bool, true, false, cond, ltb, List, length, sym, refl, ap, ◌∙◌, arith, ltb-false, ltb-true, le-ltb, lt-ltb}
use lib.Ieee.{Float}
use Rattle.format.proofs.Answers.{mapped_answer, mapped_refused}
use Rattle.format.specs.Answer as Ans
use Rattle.format.specs.Answer.{Answer, answer, mapped, then_answer}
use Rattle.format.specs.Refusal.{number_of}
use Rattle.format.specs.declared.refusal.Refusal.{Refusal}
use Rattle.math.specs.Plane as Pl
use Rattle.math.specs.declared.vector.Vector3.{Vector3}
use Rattle.math.specs.declared.plane.Hyperplane.{Hyperplane}
use Rattle.math.specs.declared.plane.HyperplaneSide.{HyperplaneSide}
use Rattle.math.specs.declared.plane.HyperplaneSide.TheVariants.{Positive, Negative}
use Rattle.walk.specs.Table.{Node, child_on}
use Rattle.walk.specs.Walk.{Entered, with_node, with_plane, enter}
use Rattle.nodes.specs.Tables.{End, is_box, file_table}
use Rattle.nodes.specs.Fast.{Within, is_render, words_answer, node_of, child_of, word_on, node_here, node_size, ReadsNode, plane_here, plane_for, plane_of_index, plane_in, side_from, sided_answer, two_dists, dists_from, table, place_in, plane_read, render_node_here, clip_node_here, node_in}
use Rattle.nodes.specs.Fast as Fast
use Rattle.nodes.specs.Walks.{made_from, made_with, made_at, MadeIn, found_answer, child_toward, node_and_dists, word_at, are_whole, all_bytes, Read}
use Rattle.nodes.specs.declared.table.HullTable.{HullTable}
use Rattle.nodes.specs.declared.table.HullTable.TheVariants.{Render, Clip, Box}
use Rattle.nodes.specs.declared.table.Part.{Part}
use Rattle.nodes.specs.declared.table.Tables.{Tables}
use Rattle.walk.proofs.Steps.{enter_unread}
use Rattle.nodes.proofs.Entering.{child_is, enter_not, enter_is, enter_no_plane}
use Rattle.nodes.proofs.Places.{inside}
use Rattle.nodes.proofs.Planes.{plane_is}
use Rattle.nodes.proofs.Readers.{in_file, no_node}
use Rattle.nodes.proofs.Sections.{plane_within}
use Rattle.nodes.proofs.Wholes.{whole_is, all_whole, all_taken, bytes_length, bytes_within, record_inside}

-- ---- words on a side

pub on_the_side : (w : Words) (b : Bool) → word_on w b ≡ word_at w (Pl.side_if b)
on_the_side w true = refl
on_the_side w false = refl

child_at_lem : (tab : HullTable) (w : Words) (sd : HyperplaneSide) → child_of tab (word_at w sd) ≡ child_on (node_of tab w) sd
child_at_lem tab w Positive = refl
child_at_lem tab w Negative = refl

-- ---- the words of a node in its section's bytes, by which table it is

-- there is room for a node of an index below their number
pub room : (k : Bool) (i l : ℕ) → ltb i (l / node_size k) ≡ true → i * node_size k + node_size k ≤ l
room true i l e = let h = ltb-true i (l / 24) e in omega arith
room false i l e = let h = ltb-true i (l / 8) e in omega arith

-- ---- by the readers of any table

module _ {X : Type 0} (make : Entered End → X) (s : List ℕ) (t : Tables) (i : ℕ) (r : Result Words Refusal) (is-r : words_answer t.table r ≡ Fast.node_at s t i) where
  pub any_unread : (x : Refusal) → r ≡ Err x → Ans.refused (number_of x) ≡ made_from make s t i
  any_unread x q = sym (ap (mapped make) (enter_not s t (table s t) refl refl refl i r is-r x q))

  module _ (w : Words) (q : r ≡ Ok w) where
    pub any_no_plane : (n : ℕ) → plane_in s t w.plane ≡ Ans.refused n → Ans.refused n ≡ made_from make s t i
    any_no_plane n e = sym (ap (mapped make) (enter_no_plane s t (table s t) refl refl refl i r is-r w q n e))

    pub any_made : (h : Hyperplane) → plane_in s t w.plane ≡ answer h → (x : X) → x ≡ make (record { nd = node_of t.table w; plane = h }) → answer x ≡ made_from make s t i
    any_made h e x is_x =
        ap answer is_x ∙ sym (ap (mapped make) (enter_is s t (table s t) refl refl refl i r is-r w q h e))

-- the plane that a side or two distances tell
module _ (a : Answer Hyperplane) where
  pub no_side : (p : Vector3) (r : Result Bool Refusal) → sided_answer r ≡ side_from p a → (x : Refusal) → r ≡ Err x → a ≡ Ans.refused (number_of x)
  no_side p r e x q = mapped_refused (λ h. Pl.point_side h p) a (number_of x) (sym e ∙ ap sided_answer q)

  pub side_of : (p : Vector3) (r : Result Bool Refusal) → sided_answer r ≡ side_from p a → (b : Bool) → r ≡ Ok b → (h : Hyperplane) × (a ≡ answer h) × (Pl.point_side h p ≡ Pl.side_if b)
  side_of p r e b q = mapped_answer (λ h. Pl.point_side h p) a (Pl.side_if b) (sym e ∙ ap sided_answer q)

  module _ (p q : Vector3) (r : (Result (Float × Float) Refusal)) (e : answer_of r ≡ dists_from p q a) where
    pub no_dists : (x : Refusal) → r ≡ Err x → a ≡ Ans.refused (number_of x)
    no_dists x u = mapped_refused (two_dists p q) a (number_of x) (sym e ∙ ap answer_of u)

    pub dists_of : (x y : Float) → r ≡ Ok (x, y) → (h : Hyperplane) × (a ≡ answer h) × (◌≡◌ {A = Float × Float} (two_dists p q h) (x, y))
    dists_of x y u = mapped_answer (two_dists p q) a (x, y) (sym e ∙ ap answer_of u)

-- the child on a side
pub toward : (tab : HullTable) (w : Words) (p : Vector3) (h : Hyperplane) (b : Bool) → Pl.point_side h p ≡ Pl.side_if b → (word : ℕ) → word ≡ word_on w b
    → child_of tab word ≡ child_toward p (record { nd = node_of tab w; plane = h })
toward tab w p h b e word is_word = ap (child_of tab) is_word ∙ sym (ap (child_on (node_of tab w)) e ∙ child_is tab w b)

pub at_side : (tab : HullTable) (w : Words) (sd : HyperplaneSide) (word : ℕ) → word ≡ word_at w sd → child_of tab word ≡ child_on (node_of tab w) sd
at_side tab w sd word is_word = ap (child_of tab) is_word ∙ child_at_lem tab w sd

pub with_dists : (nd : Node End) (p q : Vector3) (h : Hyperplane) (x y : Float) → ◌≡◌ {A = Float × Float} (two_dists p q h) (x, y) → ◌≡◌ {A = Node End × (Float × Float)} (nd, (x, y)) (node_and_dists p q (record { nd = nd; plane = h }))
with_dists nd p q h x y e = ap (λ (z : Float × Float). (nd, z)) (sym e)

-- ---- by the bytes n of nodes and m of planes

module _ {X : Type 0} (make : Entered End → X) (render : Bool) (n m : List ℕ) (at : ℕ) (r : Result Words Refusal) (is-r : ReadsNode render n at r) where
  pub in_unread : (x : Refusal) → r ≡ Err x → MadeIn make render n m at (Ans.refused (number_of x))
  in_unread x q s a b wn wm =
      ap (λ (y : Answer (Node End)). then_answer y (made_with make s b (length m / 20))) (sym (ap (words_answer (file_table render)) q) ∙ is-r s a wn)

  module _ (w : Words) (q : r ≡ Ok w) where
    with_node_lem : (s : List ℕ) (a b : ℕ) → Within n s a → made_at make render s (a + at) b (length m / 20) ≡ made_with make s b (length m / 20) (node_of (file_table render) w)
    with_node_lem s a b wn =
        sym (ap (λ (y : Answer (Node End)). then_answer y (made_with make s b (length m / 20))) (sym (ap (words_answer (file_table render)) q) ∙ is-r s a wn))

    pub in_outside : length m / 20 ≤ w.plane → MadeIn make render n m at (Ans.refused 30)
    in_outside h s a b wn wm = sym (with_node_lem s a b wn ∙ simp (le-ltb w.plane (length m / 20) h))

    pub in_made : w.plane < length m / 20 → (x : X) → x ≡ make (record { nd = node_of (file_table render) w; plane = plane_here m (w.plane * 20) }) → MadeIn make render n m at (answer x)
    in_made h x is_x s a b wn wm =
        ap answer (is_x ∙ ap (λ (y : Hyperplane). make (record { nd = node_of (file_table render) w; plane = y })) (plane_within m s b wm (w.plane * 20) (omega arith)))
        ∙ sym (with_node_lem s a b wn ∙ simp (lt-ltb w.plane (length m / 20) h))

-- ---- of a table that is whole

module _ (s : List ℕ) (t : Tables) (e : are_whole t (length s) ≡ true) where
  abbrev render : Bool
  render = is_render t.table

  abbrev whole_nodes : (t.nodes.count ≤ t.nodes.readable) × (t.nodes.at + t.nodes.count * node_size render ≤ length s)
  whole_nodes = whole_is t.nodes (node_size render) (length s) (all_whole t (length s) e).1

  abbrev pub whole_planes : (t.planes.count ≤ t.planes.readable) × (t.planes.at + t.planes.count * 20 ≤ length s)
  whole_planes = whole_is t.planes 20 (length s) (all_whole t (length s) e).2

  pub at_place : (q : Part) (size j : ℕ) → q.count ≤ q.readable → q.at + q.count * size ≤ length s → j < q.count → place_in q size (length s) j ≡ answer (q.at + j * size)
  at_place q size j f g k =
      sym (inside q size (length s) j k (omega arith) (omega (arith, record_inside s q size g j k)))

  plane_by : (j : ℕ) → j < t.planes.count → then_answer (place_in t.planes 20 (length s) j) (plane_read s) ≡ answer (plane_here s (t.planes.at + j * 20))
  plane_by j k =
      ap (λ (x : Answer ℕ). then_answer x (plane_read s)) (at_place t.planes 20 j whole_planes.0 whole_planes.1 k)
      ∙ plane_is s (t.planes.at + j * 20) (omega (arith, record_inside s t.planes 20 whole_planes.1 j k, whole_planes.1))

  pub plane_of_lem : (tab : HullTable) → is_box tab ≡ false → (j : ℕ) → j < t.planes.count → plane_for tab s t j ≡ answer (plane_here s (t.planes.at + j * 20))
  plane_of_lem Render b j k = plane_by j k
  plane_of_lem Clip b j k = plane_by j k
  plane_of_lem Box b j k = let z : ◌≡◌ {A = ℕ} 0 1 = cc in absurd (omega arith)

  module _ {X : Type 0} (make : Entered End → X) where
    with_plane_lem : (nd : Node End) (b : Bool) → ltb nd.plane t.planes.count ≡ b
        → cond b (answer (make (record { nd = nd; plane = plane_here s (t.planes.at + nd.plane * 20) }))) (Ans.refused 30)
        ≡ mapped make (cond b (with_plane (table s t) nd (plane_of_index s t nd.plane)) (Ans.refused 30))
    unfolding plane_of_index
    with_plane_lem nd true q =
        sym (ap (λ (x : Answer Hyperplane). mapped make (with_plane (table s t) nd x)) (plane_of_lem t.table (all_whole t (length s) e).0 nd.plane (ltb-true nd.plane t.planes.count q)))
    with_plane_lem nd false q = refl

    by_node : (x : Answer (Node End)) → then_answer x (made_with make s t.planes.at t.planes.count) ≡ mapped make (with_node (table s t) x)
    by_node (answer nd) = with_plane_lem nd (ltb nd.plane t.planes.count) refl
    by_node (Ans.refused k) = refl

  module _ (i : ℕ) (l : i < t.nodes.count) where
    node_by : (tab : HullTable) → is_box tab ≡ false → t.nodes.at + t.nodes.count * node_size (is_render tab) ≤ length s → node_in tab s t.nodes i ≡ node_here (is_render tab) s (t.nodes.at + i * node_size (is_render tab))
    node_by Render b g = ap (λ (x : Answer ℕ). then_answer x (render_node_here s)) (at_place t.nodes 24 i whole_nodes.0 g l)
    node_by Clip b g = ap (λ (x : Answer ℕ). then_answer x (clip_node_here s)) (at_place t.nodes 8 i whole_nodes.0 g l)
    node_by Box b g = let z : ◌≡◌ {A = ℕ} 0 1 = cc in absurd (omega arith)

    node_is : Fast.node_at s t i ≡ node_here render s (t.nodes.at + i * node_size render)
    unfolding Fast.node_at
    node_is = node_by t.table (all_whole t (length s) e).0 whole_nodes.1

    pub made_is : {X : Type 0} (make : Entered End → X) → made_at make render s (t.nodes.at + i * node_size render) t.planes.at t.planes.count ≡ made_from make s t i
    unfolding enter
    made_is make =
        ap (λ (x : Answer (Node End)). then_answer x (made_with make s t.planes.at t.planes.count)) (sym node_is)
        ∙ by_node make (Fast.node_at s t i)

-- the bytes that were taken of it
module _ (s : List ℕ) (t : Tables) (n m : List ℕ) (b : Bool) (read : Read s t n m b) (on : b ≡ true) where
  pub is_whole : are_whole t (length s) ≡ true
  is_whole = sym read.told ∙ on

  is_n : n ≡ all_bytes s t.nodes (node_size (is_render t.table))
  is_n = read.its_nodes ∙ all_taken s t.nodes (node_size (is_render t.table)) b on true (sym (all_whole t (length s) is_whole).1) refl

  pub is_m : m ≡ all_bytes s t.planes 20
  is_m = read.its_planes ∙ all_taken s t.planes 20 b on true (sym (all_whole t (length s) is_whole).2) refl

  nodes_length : length n ≡ t.nodes.count * node_size (is_render t.table)
  nodes_length = rw is_n (bytes_length s t.nodes (node_size (is_render t.table)) (whole_nodes s t is_whole).1)

  pub planes_counted : length m / 20 ≡ t.planes.count
  planes_counted = rw (is_m, bytes_length s t.planes 20 (whole_planes s t is_whole).1) (omega arith)

  by_size : (k : Bool) (c l : ℕ) → l ≡ c * node_size k → l / node_size k ≡ c
  by_size true c l q = rw q (omega arith)
  by_size false c l q = rw q (omega arith)

  module _ (k : Bool) (is-k : k ≡ is_render t.table) where
    own_table : file_table k ≡ t.table
    own_table = rw is-k (in_file t.table (all_whole t (length s) is_whole).0)

    pub nodes_counted : length n / node_size k ≡ t.nodes.count
    nodes_counted = rw is-k (by_size (is_render t.table) t.nodes.count (length n) nodes_length)

    module _ (i : ℕ) where
      module _ {X : Type 0} (make : Entered End → X) where
        whole_made : i < t.nodes.count → (x : Answer X) → MadeIn make k n m (i * node_size k) x → x ≡ made_from make s t i
        whole_made l x g =
            let wn : Within n s t.nodes.at = rw is_n (bytes_within s t.nodes (node_size (is_render t.table)) (whole_nodes s t is_whole).1) in
            let wm : Within m s t.planes.at = rw is_m (bytes_within s t.planes 20 (whole_planes s t is_whole).1) in
            let f : MadeIn make (is_render t.table) n m (i * node_size (is_render t.table)) x = rw is-k at g in
            f s t.nodes.at t.planes.at wn wm
            ∙ ap (λ (c : ℕ). made_at make (is_render t.table) s (t.nodes.at + i * node_size (is_render t.table)) t.planes.at c) planes_counted
            ∙ made_is s t is_whole i l make

        -- an answer of the file's table is one of this table
        pub whole_answer : i < t.nodes.count → (x : HullTable → Answer X) → MadeIn make k n m (i * node_size k) (x (file_table k)) → x t.table ≡ made_from make s t i
        whole_answer l x g = ap x (sym own_table) ∙ whole_made l (x (file_table k)) g

        pub whole_node : ltb i (length n / node_size k) ≡ true → (x : HullTable → Answer X) → MadeIn make k n m (i * node_size k) (x (file_table k)) → x t.table ≡ made_from make s t i
        whole_node f = whole_answer (rw nodes_counted at (ltb-true i (length n / node_size k) f))

        pub whole_none : ltb i (length n / node_size k) ≡ false → Ans.refused 20 ≡ made_from make s t i
        unfolding Fast.node_at
        whole_none f =
            let l : t.nodes.count ≤ i = rw nodes_counted at (ltb-false i (length n / node_size k) f) in
            sym (ap (mapped make) (enter_unread (table s t) i 20 (sym (no_node s t.nodes i (is_render t.table) l ∙ ap (λ (x : HullTable). node_in x s t.nodes i) (in_file t.table (all_whole t (length s) is_whole).0)))))

-- what is made of a node and its plane that were found
module _ {X : Type 0} (make : Entered End → X) (render : Bool) (n m : List ℕ) (at : ℕ) where
  pub on_record : (s : List ℕ) (b k : ℕ) (nd : Answer (Node End)) → mapped make (then_answer nd (made_with (λ x. x) s b k)) ≡ then_answer nd (made_with make s b k)
  on_record s b k (Ans.refused e) = refl
  on_record s b k (answer nd) = go (ltb nd.plane k)
    where
      go : (c : Bool) → mapped make (cond c (answer (record { nd = nd; plane = plane_here s (b + nd.plane * 20) })) (Ans.refused 30))
          ≡ cond c (answer (make (record { nd = nd; plane = plane_here s (b + nd.plane * 20) }))) (Ans.refused 30)
      go true = refl
      go false = refl

  module _ (r : Result (Words × Bor (List ℕ)) Refusal) (f : MadeIn (λ x. x) render n m at (found_answer (file_table render) r)) where
    of_found : MadeIn make render n m at (mapped make (found_answer (file_table render) r))
    of_found s a b wn wm = ap (mapped make) (f s a b wn wm) ∙ on_record s b (length m / 20) (node_here render s (a + at))

    pub none_of : (x : Refusal) → r ≡ Err x → MadeIn make render n m at (Ans.refused (number_of x))
    none_of x q s a b wn wm = sym (ap (λ y. mapped make (found_answer (file_table render) y)) q) ∙ of_found s a b wn wm

    pub made_of : (w : Words) (p : Bor (List ℕ)) → r ≡ Ok (w, p)
        → (x : X) → x ≡ make (record { nd = node_of (file_table render) w; plane = plane_here p.now 0 }) → MadeIn make render n m at (answer x)
    made_of w p q x is_x s a b wn wm = ap answer is_x ∙ sym (ap (λ y. mapped make (found_answer (file_table render) y)) q) ∙ of_found s a b wn wm

-- the child on the point's side
pub made_toward : (p : Vector3) (render : Bool) (n m : List ℕ) (at : ℕ) (r : Result (Words × Bor (List ℕ)) Refusal) → MadeIn (λ x. x) render n m at (found_answer (file_table render) r)
    → (w : Words) (b : Bor (List ℕ)) → r ≡ Ok (w, b) → (word : ℕ) → word ≡ word_at w (Pl.point_side (plane_here b.now 0) p)
    → MadeIn (child_toward p) render n m at (answer (child_of (file_table render) word))
made_toward p render n m at r f w b q word is_word =
    made_of (child_toward p) render n m at r f w b q (child_of (file_table render) word) (at_side (file_table render) w (Pl.point_side (plane_here b.now 0) p) word is_word)
