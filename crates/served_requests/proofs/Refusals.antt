-- What the calls of the requests are refused with (specs/Refusals.antt says it). Assumes nothing.
use Prim.Native.Nat.{ℕ, zero, suc}
use mathlib.Core.Bool.{Bool, true, false, cond}
use mathlib.Core.List.{List, [], ◌∷◌, map}
use mathlib.Core.Logic.{inl, inr}
use mathlib.Core.Path.{◌≡◌, refl, sym, subst}
use lib.Dec.{ltb, eqb}
use lib.IntN.{ℤ}
use lib.Ieee.{Float}
use lib.ListN.{length}
use Rattle.format.specs.Answer as Ans
use Rattle.format.specs.Answer.{Answer, answer, mapped, then_answer}
use Rattle.format.specs.Section.{record_count}
use Rattle.format.specs.declared.contents.BspLeafContents.{BspLeafContents}
use Rattle.format.specs.declared.refusal.Refusal.TheVariants.{ListTooShort, NodeCountOutside}
use Rattle.format.specs.declared.section.BspData.{BspData}
use Rattle.format.specs.declared.section.BspFileSectionId.TheVariants.{CollisionNodes, Models}
use Rattle.math.specs.declared.vector.Vector3.{Vector3}
use Rattle.models.specs.Model.{file_model_at, file_model_of}
use Rattle.models.specs.declared.model.BspFileModel.{BspFileModel}
use Rattle.walk.specs.Table.{Table}
use Rattle.walk.specs.Walk.{Outcome, done, refused, with_visits, point_walk}
use Rattle.walk.specs.Order.{tree_size, sized_check}
use Rattle.walk.specs.Tracing as Tracing
use Rattle.walk.specs.TreeCheck.{tree_check}
use Rattle.walk.specs.Writing.{order_nodes}
use Rattle.walk.proofs.NoPanic.{walk_refuses, trace_refuses}
use Rattle.nodes.specs.Tables.{End, nodes_of}
use Rattle.hull.specs.Hull as Hull
use Rattle.hull.specs.Hull.{hull_table, own_hull, with_size, check_hull}
use Rattle.hull.specs.declared.collision.BspCollisionHull.{BspCollisionHull}
use Rattle.sizes.specs.Sizes.{FieldRow, row, cut_short, is_whole, are_bodies, judged_row, row_from, sizes_in, place_of, sizes_of}
use Rattle.sizes.specs.declared.BodySizes.{BodySizes}
use Rattle.sized_hulls.specs.Sized.{with_body, hull_sized}
use Rattle.ways.specs.Ways as Ways
use Rattle.ways.specs.Ways.{answer_of, all}
use Rattle.points.specs.Points.{points_of, not_points, codes_and_reads, filled}
use Rattle.made.specs.File.{file_of, is_node_count, made_up}
use Rattle.loaded.specs.Refusals.{RefusedOnly}
use Rattle.loaded.proofs.Refusals as Core
use Rattle.loaded.proofs.Refusals.{answers, refuses, of_mapped, of_record}
use Rattle.ordered.specs.Same.{file_nodes, file_rows}
use Rattle.words.specs.Words.{Left, given, left, listed_in, number_words, map_of}
use Rattle.walk_words.specs.Layout.{contents_words, trace_words}
use Rattle.ffi_hull.specs.Layout.{point_at, hull_from, hull_in, hull_words}
use Rattle.ffi_checked.specs.Calls.{hull_check_of, bsp_hull_check}
use Rattle.ffi_sizes.specs.Layout.{sizes_length, sizes_words, sizes_from}
use Rattle.ffi_sizes.specs.Calls.{bsp_body_sizes, bsp_hull_sized}
use Rattle.ffi_order.specs.Calls.{Ordering, ordering, ordered_in, bsp_order, bsp_order_contents, bsp_order_trace}
use Rattle.ffi_points.specs.Calls.{bsp_contents_points}
use Rattle.ffi_made.specs.Calls.{bsp_made_up}
use Rattle.ffi_place.specs.Calls.{place_words, bsp_load_place}
use Rattle.place.specs.Place.{place_of as place_of_file}
use Rattle.served.specs.Refusals.{ZeroOr, of_tree_check}
use Rattle.served.proofs.Refusals.{of_check}
use Rattle.served.proofs.Statuses.{of_given, at_least_lem, both, of_listed, OfWords, of_table, of_none, of_words}
use Rattle.served_requests.specs.Refusals.{of_order_contents, of_order_trace, of_points, of_hull_sized, of_body_sizes, EveryRefusal}
use Rattle.served_requests.proofs.Orders.{of_then, of_order, own_rows}

abbrev K : ℕ → Type 0
K = ZeroOr of_tree_check

abbrev C : ℕ → Type 0
C = ZeroOr of_order_contents

abbrev T : ℕ → Type 0
T = ZeroOr of_order_trace

abbrev Q : ℕ → Type 0
Q = ZeroOr of_points

abbrev H : ℕ → Type 0
H = ZeroOr of_hull_sized

abbrev B : ℕ → Type 0
B = ZeroOr of_body_sizes

of_cond : {A : Type 0} (P : ℕ → Type 0) (b : Bool) (a : A) (n : ℕ) → P n → RefusedOnly P (cond b (answer a) (Ans.refused n))
of_cond P true a n p = answers P a
of_cond {A} P false a n p = refuses P {A = A} n p

-- what is asked of the hull of words: 20 where they are no hull's
of_hull : {A : Type 0} (P : ℕ → Type 0) → P 20 → (ws : List ℕ) (k : BspCollisionHull → Answer A) → ((h : BspCollisionHull) → RefusedOnly P (k h)) → RefusedOnly P (then_answer (hull_from ws) k)
of_hull {A} P p20 ws k f = by (of_words ws)
  where
    by : OfWords ws → RefusedOnly P (then_answer (hull_from ws) k)
    by (of_table t e) = subst (λ (x : Answer BspCollisionHull). RefusedOnly P (then_answer x k)) (sym e) (f (hull_in t ws))
    by (of_none e) = subst (λ (x : Answer BspCollisionHull). RefusedOnly P (then_answer x k)) (sym e) (refuses P {A = A} 20 p20)

of_visits : {A : Type 0} (P : ℕ → Type 0) (o : Outcome A) → ((n : ℕ) → o ≡ refused n → P n) → RefusedOnly P (with_visits o)
of_visits P (done a ns) f = answers P _
of_visits P (refused n) f = refuses P n (f n refl)

-- ---- many points: each is refused as it is alone

of_first : {A : Type 0} (P : ℕ → Type 0) (x : Answer A) (rest : List (Answer A)) → RefusedOnly P x → RefusedOnly P (all rest) → RefusedOnly P (all (x ∷ rest))
of_first {A} P (answer a) rest f g = of_mapped P (λ (bs : List A). a ∷ bs) (all rest) g
of_first {A} P (Ans.refused n) rest f g = refuses P {A = List A} n (f n refl)

of_all : {A : Type 0} (P : ℕ → Type 0) (go : Vector3 → Answer A) → ((p : Vector3) → RefusedOnly P (go p)) → (ps : List Vector3) → RefusedOnly P (all (map go ps))
of_all {A} P go f [] = answers P {A = List A} []
of_all {A} P go f (p ∷ ps) = of_first P (go p) (map go ps) (f p) (of_all P go f ps)

of_answer : {A : Type 0} (P : ℕ → Type 0) (o : Outcome A) → RefusedOnly P (with_visits o) → RefusedOnly P (answer_of o)
of_answer P (done a ns) f = answers P a
of_answer P (refused n) f = refuses P n (f n refl)

of_answers : (P : ℕ → Type 0) (A : Table End BspLeafContents) (root : ℕ) → ((p : Vector3) → RefusedOnly P (answer_of (point_walk A root p))) → (ps : List Vector3) → RefusedOnly P (Ways.answers A root ps)
of_answers P A root f ps = of_all P (λ (p : Vector3). answer_of (point_walk A root p)) f ps

of_filled : (P : ℕ → Type 0) → P 0 → (x : Answer (List ℕ × ℕ)) (list out : List ℕ) → RefusedOnly P x → P (listed_in (filled x list) out).status
of_filled P p0 (answer v) list out f = p0
of_filled P p0 (Ans.refused n) list out f = f n refl

-- ---- body sizes

of_row : (s : List ℕ) (r : FieldRow) → RefusedOnly B (judged_row s r)
of_row s cut_short = refuses B {A = BodySizes} 26 (inr (inr (inl refl)))
of_row s (row fs) = by (is_whole fs) (are_bodies (sizes_in s (place_of 1 fs) (place_of 2 fs)))
  where
    by : (a b : Bool) → RefusedOnly B (cond a (cond b (answer (sizes_in s (place_of 1 fs) (place_of 2 fs))) (Ans.refused 27)) (Ans.refused 26))
    by true true = answers B (sizes_in s (place_of 1 fs) (place_of 2 fs))
    by true false = refuses B {A = BodySizes} 27 (inr (inr (inr (inl refl))))
    by false b = refuses B {A = BodySizes} 26 (inr (inr (inl refl)))

-- ---- hulls of models

of_own : (n j : ℕ) (f : BspFileModel) → RefusedOnly H (own_hull n j f)
of_own n zero f = answers H _
of_own n (suc zero) f = answers H _
of_own n (suc (suc zero)) f = answers H _
of_own n (suc (suc (suc j))) f = refuses H {A = BspCollisionHull} 20 (inr (inr (inl refl)))

-- ---- one of two

chosen : (P : ℕ → Type 0) (b : Bool) (x y : Left) → P x.status → P y.status → P (cond b x y).status
chosen P true x y p q = p
chosen P false x y p q = q

needed : (P : ℕ → Type 0) (b : Bool) (short rest : Ordering) → P short.status → P rest.status → P (cond b short rest).status
needed P true short rest p q = p
needed P false short rest p q = q

module _ (s map : List ℕ) where
  abbrev m : BspData
  m = map_of map

  of_checked : (h : BspCollisionHull) (marks out : List ℕ) → K (hull_check_of (answer h) s map marks out).status
  unfolding sized_check
  of_checked h marks out =
      of_given K (inl refl) hull_words (check_hull s m h marks).answer out
      (of_mapped K (λ (x : ℕ × ℕ). with_size h x.0 x.1) (mapped (λ (k : ℕ). (tree_size (nodes_of s m h.table) h.node_id, k)) (tree_check (nodes_of s m h.table) marks h.node_id).answer)
      (of_mapped K (λ (k : ℕ). (tree_size (nodes_of s m h.table) h.node_id, k)) (tree_check (nodes_of s m h.table) marks h.node_id).answer
      (of_check K (inr (inr (inl refl))) (inr (inl refl)) (inr (inr (inr (inl refl)))) (inr (inr (inr (inr (inl refl))))) (inr (inr (inr (inr (inr (inr (inl refl)))))))
      (inr (inr (inr (inr (inr (inl refl)))))) s m h.table marks h.node_id)))

  of_hull_check : (hull marks out : List ℕ) → K (bsp_hull_check s map hull marks out).status
  unfolding bsp_hull_check
  of_hull_check hull marks out =
      both K (inl refl) (inr (inl refl)) 31 map marks out _ (both K (inl refl) (inr (inl refl)) 9 hull marks out _ (both K (inl refl) (inr (inl refl)) 11 out marks out _ (by (of_words hull))))
    where
      by : OfWords hull → K (hull_check_of (hull_from hull) s map marks out).status
      by (of_table t e) = subst (λ (x : Answer BspCollisionHull). K (hull_check_of x s map marks out).status) (sym e) (of_checked (hull_in t hull) marks out)
      by (of_none e) = subst (λ (x : Answer BspCollisionHull). K (hull_check_of x s map marks out).status) (sym e) (inr (inr (inl refl)))

  of_bsp_order : (table root : ℕ) (marks : List ℕ) (list : List ℤ) (out : List ℕ) → K (bsp_order s map table root marks list out).status
  unfolding bsp_order
  of_bsp_order table root marks list out =
      needed K (ltb (length map) 31) (ordering 22 marks list out) _ (inr (inl refl)) (needed K (ltb (length out) 1) (ordering 22 marks list out) _ (inr (inl refl)) (by (ltb table 2)))
    where
      by : (b : Bool) → K (cond b (ordered_in (order_nodes (file_nodes s m (eqb table 0)) marks root list) out) (ordering 20 marks list out)).status
      by true =
          of_given K (inl refl) number_words (order_nodes (file_nodes s m (eqb table 0)) marks root list).answer out
          (of_order K (inr (inr (inr (inl refl)))) s m (inr (inr (inl refl))) (inr (inl refl)) (inr (inr (inr (inr (inl refl))))) (inr (inr (inr (inr (inr (inr (inl refl)))))))
          (inr (inr (inr (inr (inr (inl refl)))))) (eqb table 0) marks root list)
      by false = inr (inr (inl refl))

  of_order_contents_lem : (list : List ℤ) (root : ℕ) (point : List Float) (out : List ℕ) → C (bsp_order_contents s map list root point out).status
  unfolding bsp_order_contents
  of_order_contents_lem list root point out =
      at_least_lem C (inl refl) (inr (inl refl)) 31 map out _ (at_least_lem C (inl refl) (inr (inl refl)) 3 point out _ (at_least_lem C (inl refl) (inr (inl refl)) 2 out out _
      (of_given C (inl refl) contents_words (with_visits (point_walk (file_rows s m list) root (point_at point 0))) out
      (of_visits C (point_walk (file_rows s m list) root (point_at point 0))
      (walk_refuses C (file_rows s m list) (own_rows C (inr (inr (inl refl))) s m list) (inr (inr (inr (inl refl)))) (inr (inr (inr (inr (inl refl))))) (point_at point 0) _ root)))))

  of_order_trace_lem : (list : List ℤ) (root : ℕ) (segment : List Float) (out : List ℕ) → T (bsp_order_trace s map list root segment out).status
  unfolding bsp_order_trace
  of_order_trace_lem list root segment out =
      at_least_lem T (inl refl) (inr (inl refl)) 31 map out _ (at_least_lem T (inl refl) (inr (inl refl)) 6 segment out _ (at_least_lem T (inl refl) (inr (inl refl)) 17 out out _
      (of_given T (inl refl) trace_words (with_visits (Tracing.trace (file_rows s m list) root (point_at segment 0) (point_at segment 3))) out
      (of_visits T (Tracing.trace (file_rows s m list) root (point_at segment 0) (point_at segment 3))
      (trace_refuses T (file_rows s m list) (own_rows T (inr (inr (inl refl))) s m list) (inr (inr (inr (inl refl)))) (inr (inr (inr (inr (inl refl))))) 512 root (point_at segment 0) (point_at segment 3))))))

  of_points_lem : (hull : List ℕ) (points : List Float) (list out : List ℕ) → Q (bsp_contents_points s map hull points list out).status
  unfolding bsp_contents_points
  of_points_lem hull points list out =
      chosen Q (not_points points) (left 24 list out) _ (inr (inl refl))
      (both Q (inl refl) (inr (inr (inl refl))) 31 map list out _ (both Q (inl refl) (inr (inr (inl refl))) 9 hull list out _ (both Q (inl refl) (inr (inr (inl refl))) 1 out list out _
      (both Q (inl refl) (inr (inr (inl refl))) (length (points_of points)) list list out _ (of_filled Q (inl refl) _ list out asked)))))
    where
      one : (h : BspCollisionHull) (p : Vector3) → RefusedOnly Q (answer_of (point_walk (hull_table s m h) h.node_id p))
      one h p = of_answer Q (point_walk (hull_table s m h) h.node_id p) (λ n e. inr (inr (inr (inr ((Core.every_refusal s m h).contents p n e)))))

      asked : RefusedOnly Q (then_answer (hull_from hull) (λ h. codes_and_reads (hull_table s m h) h.node_id (points_of points)))
      asked =
          of_hull Q (inr (inr (inr (inl refl)))) hull _ (λ h. of_mapped Q _ (Ways.answers (hull_table s m h) h.node_id (points_of points))
          (of_answers Q (hull_table s m h) h.node_id (one h) (points_of points)))

  of_hull_sized_lem : (sizes : List ℕ) (model i : ℕ) (out : List ℕ) → H (bsp_hull_sized s map sizes model i out).status
  unfolding bsp_hull_sized hull_sized Hull.hull
  of_hull_sized_lem sizes model i out =
      at_least_lem H (inl refl) (inr (inl refl)) 31 map out _ (at_least_lem H (inl refl) (inr (inl refl)) sizes_length sizes out _ (at_least_lem H (inl refl) (inr (inl refl)) 11 out out _
      (of_given H (inl refl) hull_words (hull_sized s m (sizes_from sizes) model i) out (of_mapped H (with_body (sizes_from sizes) i) (Hull.hull s m model i) (by (ltb i 3))))))
    where
      by : (b : Bool) → RefusedOnly H (cond b (then_answer (file_model_of s m model) (own_hull (record_count CollisionNodes m.collision_nodes) i)) (Ans.refused 20))
      by true =
          of_then H (file_model_of s m model) (own_hull (record_count CollisionNodes m.collision_nodes) i)
          (of_record H (inr (inr (inr (inl refl)))) Models file_model_at s m model (λ l. inr (inr (inl refl)))) (of_own (record_count CollisionNodes m.collision_nodes) i)
      by false = refuses H {A = BspCollisionHull} 20 (inr (inr (inl refl)))

  of_body_sizes_lem : (out : List ℕ) → B (bsp_body_sizes s out).status
  unfolding bsp_body_sizes sizes_of
  of_body_sizes_lem out =
      at_least_lem B (inl refl) (inr (inl refl)) sizes_length out out _ (of_given B (inl refl) sizes_words (judged_row s (row_from (length s) s 0)) out (of_row s (row_from (length s) s 0)))

  of_load_place : (out : List ℕ) → ZeroOr (ListTooShort ∷ []) (bsp_load_place s out).status
  unfolding bsp_load_place
  of_load_place out = at_least_lem (ZeroOr (ListTooShort ∷ [])) (inl refl) (inr (inl refl)) 4 out out (given (mapped place_words (answer (place_of_file s))) out) (inl refl)

of_made_up : (seed nodes : ℕ) (buffer out : List ℕ) → ZeroOr (NodeCountOutside ∷ ListTooShort ∷ []) (bsp_made_up seed nodes buffer out).status
unfolding bsp_made_up made_up
of_made_up seed nodes buffer out =
    chosen (ZeroOr (NodeCountOutside ∷ ListTooShort ∷ [])) (is_node_count nodes) _ (left 29 buffer out)
    (both (ZeroOr (NodeCountOutside ∷ ListTooShort ∷ [])) (inl refl) (inr (inr (inl refl))) 1 out buffer out _
    (of_listed (ZeroOr (NodeCountOutside ∷ ListTooShort ∷ [])) (inl refl) (inr (inr (inl refl))) (made_up seed nodes) buffer out
    (of_cond (ZeroOr (NodeCountOutside ∷ ListTooShort ∷ [])) (is_node_count nodes) (file_of seed nodes) 29 (inr (inl refl)))))
    (inr (inl refl))

pub every_refusal : EveryRefusal
every_refusal s map = record {
  hull_check = of_hull_check s map;
  order = of_bsp_order s map;
  order_contents = of_order_contents_lem s map;
  order_trace = of_order_trace_lem s map;
  contents_points = of_points_lem s map;
  hull_sized = of_hull_sized_lem s map;
  body_sizes = of_body_sizes_lem s map;
  load_place = of_load_place s map;
  made_up = of_made_up;
}
