-- One point: what is said of it alone is what is asked of the list of it, and what is left in the first entries of two lists is left in the lists.
-- Assumes nothing.
use Rattle.std.specs.Prelude.{Some}
use Rattle.std.proofs.Common.{Result, Ok}
use Prim.Native.Nat.{ℕ, ◌<◌}
use native.Mathlib.Omega.{arith}
use mathlib.Core.Bool.{Bool}
use mathlib.Core.List.{List, [], ◌∷◌, ◌++◌}
use mathlib.Core.Path.{◌≡◌, refl, sym, ap, ◌∙◌}
use lib.Ieee.{Float}
use lib.ListN.{length, get_or, set, take, drop}
use Rattle.format.specs.Answer as Ans
use Rattle.format.specs.Answer.{Answer, answer, mapped}
use Rattle.format.specs.Answers.{answer_of}
use Rattle.format.specs.Contents.{code_of}
use Rattle.format.specs.Listed.{Listed}
use Rattle.format.specs.declared.refusal.Refusal.{Refusal}
use Rattle.format.specs.declared.contents.BspLeafContents.{BspLeafContents}
use Rattle.format.specs.declared.contents.BspLeafContents.TheVariants.{Empty, Solid, Water, Slime, Lava, Sky, Current0, Current90, Current180, Current270, CurrentUp, CurrentDown}
use Rattle.format.specs.declared.section.BspData.{BspData}
use Rattle.math.specs.declared.vector.Vector3.{Vector3}
use Rattle.walk.specs.Table.{Table}
use Rattle.walk.specs.Walk.{with_visits, point_walk}
use Rattle.words.specs.Words.{Left, left, listed_in}
use Rattle.nodes.specs.Tables.{End, file_table}
use Rattle.nodes.specs.Fast.{table, tables_of}
use Rattle.nodes.specs.Walks.{are_whole}
use Rattle.nodes.specs.declared.table.Tables.{Tables}
use Rattle.nodes.proofs.Equal.{table_is}
use Rattle.hull.specs.Hull.{hull_table}
use Rattle.hull.specs.declared.collision.BspCollisionHull.{BspCollisionHull}
use Rattle.points.specs.Points.{answered, codes_and_reads, filled, points_of}
use Rattle.points.proofs.Finished.{count_small, only_answered, only_refused}
use Rattle.ffi_hull.specs.Layout.{asked, node_hull, point_at, walked_map}
use Rattle.ffi_hull.proofs.Walked.{first_words, its_map, of_nodes, room, the_hull}
use Rattle.ffi_walks.specs.Quick.{code_and_visits, contents_asked, contents_at_once}
use Rattle.ffi_walks.proofs.Found.{was_answered}
use Rattle.ffi_points.specs.Calls.{bsp_contents_points}
use Rattle.ffi_points.specs.Private.{its_code, one_told}
use Rattle.ffi_points.proofs.Calling.{opened_at}

pub code_small : (c : BspLeafContents) → code_of c < 256
code_small Empty = omega arith
code_small Solid = omega arith
code_small Water = omega arith
code_small Slime = omega arith
code_small Lava = omega arith
code_small Sky = omega arith
code_small Current0 = omega arith
code_small Current90 = omega arith
code_small Current180 = omega arith
code_small Current270 = omega arith
code_small CurrentUp = omega arith
code_small CurrentDown = omega arith

-- what is put at the front of two lists with an entry
put_both : (l o : List ℕ) (c v : ℕ) → 0 < length l → 0 < length o → left 0 (set l 0 c) (set o 0 v) ≡ listed_in (filled (answer (c ∷ [], v)) l) o
put_both [] o c v f g = absurd (omega (arith, f))
put_both (x ∷ l) [] c v f g = absurd (omega (arith, g))
put_both (x ∷ l) (y ∷ o) c v f g = refl

module _ (s : List ℕ) (m : BspData) (h : BspCollisionHull) (p : Vector3) where
  -- a code that is said at once is a byte, and what is told
  module _ (q : ℕ × ℕ) (said : Some q ≡ contents_at_once s m h p) where
    its : (a : BspLeafContents × ℕ) × (answer a ≡ contents_asked s m h p) × (q ≡ code_and_visits a)
    unfolding contents_at_once
    its = was_answered code_and_visits (are_whole (tables_of m h.table h.mins h.maxs) (length s)) (contents_asked s m h p) q said

    pub code_fits : q.0 < 256
    code_fits = let (a, e, z) = its in omega (arith, code_small a.0, ap (λ (x : ℕ × ℕ). x.0) z)

    pub told_at_once : (list out : List ℕ) → 0 < length list → 0 < length out → left 0 (set list 0 q.0) (set out 0 q.1) ≡ one_told s m h p list out
    told_at_once list out f g =
        let (a, e, z) = its in
        put_both list out q.0 q.1 f g ∙ ap (λ (x : ℕ × ℕ). listed_in (filled (answer (x.0 ∷ [], x.1)) list) out) z
        ∙ ap (λ (x : Answer (BspLeafContents × ℕ)). listed_in (filled (mapped its_code x) list) out) e

  -- what is told of the first entries of two lists, and their other entries
  told_of : (x : Answer (BspLeafContents × ℕ)) (list out : List ℕ) → 0 < length list → 0 < length out → (w : Left) → w ≡ listed_in (filled (mapped its_code x) (take 1 list)) (take 1 out)
      → left w.status (w.list ++ drop 1 list) (w.out ++ drop 1 out) ≡ listed_in (filled (mapped its_code x) list) out
  told_of x [] out f g w e = absurd (omega (arith, f))
  told_of x (y ∷ l) [] f g w e = absurd (omega (arith, g))
  told_of (answer a) (y ∷ l) (z ∷ o) f g w e = ap (λ (v : Left). left v.status (v.list ++ l) (v.out ++ o)) e
  told_of (Ans.refused n) (y ∷ l) (z ∷ o) f g w e = ap (λ (v : Left). left v.status (v.list ++ l) (v.out ++ o)) e

  pub told_of_first : (list out : List ℕ) → 0 < length list → 0 < length out → (w : Left) → w ≡ one_told s m h p (take 1 list) (take 1 out) → left w.status (w.list ++ drop 1 list) (w.out ++ drop 1 out) ≡ one_told s m h p list out
  told_of_first list out f g w e = told_of (contents_asked s m h p) list out f g w e

  -- it is what the list of the point is answered
  pub told_alone : m.render_nodes.size < 4294967296 → m.collision_nodes.size < 4294967296 → (cs : List Float) → length cs ≡ 3 → p ≡ point_at cs 0 → (list out : List ℕ) → 0 < length list
      → one_told s m h p list out ≡ listed_in (answered (hull_table s m h) h.node_id cs list) out
  told_alone render clip cs three is-p [] out room = absurd (omega (arith, room))
  told_alone render clip cs three is-p (y ∷ l) out room = go (contents_asked s m h p) refl
    where
      t : Tables
      t = tables_of m h.table h.mins h.maxs

      same : table s t ≡ hull_table s m h
      same = table_is s m h.mins h.maxs h.table

      in_table : {x : Answer (BspLeafContents × ℕ)} → contents_asked s m h p ≡ x → x ≡ with_visits (point_walk (table s t) h.node_id p)
      in_table e = sym e ∙ ap (λ (X : Table End BspLeafContents). with_visits (point_walk X h.node_id p)) (sym same)

      go : (x : Answer (BspLeafContents × ℕ)) → contents_asked s m h p ≡ x → listed_in (filled (mapped its_code x) (y ∷ l)) out ≡ listed_in (answered (hull_table s m h) h.node_id cs (y ∷ l)) out
      go (answer (k, v)) e =
          ap (λ (x : Listed). listed_in x out)
          (only_answered s t cs h.node_id three (hull_table s m h) same (y ∷ l) p is-p (count_small m h.table h.mins h.maxs t refl render clip) k v (in_table e) room (code_of k) refl)
      go (Ans.refused n) e = ap (λ (x : Listed). listed_in x out) (only_refused s t cs h.node_id three (hull_table s m h) same (y ∷ l) p is-p n (in_table e))

-- one point by the nodes of the kind b, from the first words of the map record, of whose words each is less than 2^32
module _ (b : Bool) (s ms ws : List ℕ) (small : (i : ℕ) → get_or ms i 0 < 4294967296) (cs : List Float) (three : length cs ≡ 3) (list out : List ℕ) (some : 0 < length list) where
  pub of_kind : (r : Result (BspData × BspCollisionHull) Refusal) → answer_of r ≡ asked ms ws cs 0 out 1 → (m : BspData) (h : BspCollisionHull) → r ≡ Ok (m, h) → h.table ≡ file_table b → (p : Vector3) → p ≡ point_at cs 0
      → (w : Left) → w ≡ one_told s (walked_map (take 31 ms)) (node_hull b h.node_id) p (take 1 list) (take 1 out) → left w.status (w.list ++ drop 1 list) (w.out ++ drop 1 out) ≡ bsp_contents_points s ms ws cs list out
  of_kind r is-r m h q is_table p is_p w e =
      let map = its_map ms ws cs 0 out 1 r is-r m h q in
      told_of_first s (walked_map (take 31 ms)) (node_hull b h.node_id) p list out some (room ms ws cs 0 out 1 r is-r m h q) w e
      ∙ ap (λ (x : BspData). one_told s x (node_hull b h.node_id) p list out) (first_words ms ∙ sym map)
      ∙ ap (λ (T : Table End BspLeafContents). listed_in (filled (mapped its_code (with_visits (point_walk T h.node_id p))) list) out) (of_nodes s m b h is_table)
      ∙ told_alone s m h p (omega (arith, small 11, ap (λ (x : BspData). x.render_nodes.size) map)) (omega (arith, small 19, ap (λ (x : BspData). x.collision_nodes.size) map)) cs three is_p list out some
      ∙ the_hull (λ x. listed_in (filled x list) out) s ms ws cs 0 out 1 (λ T root. codes_and_reads T root (points_of cs)) r is-r m h q
      ∙ opened_at s ms ws cs list out (omega (arith, three)) (omega (arith, three)) (omega (arith, three, some))

pub some_first : (l : List ℕ) → 0 < length l → 0 < length (take 1 l)
some_first [] h = absurd (omega (arith, h))
some_first (x ∷ l) h = omega arith
