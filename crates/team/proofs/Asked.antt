-- Whether the players' lists are answered: what a list that finds no room tells, and the players one after another. Assumes nothing.
use Rattle.std.specs.Prelude.{Option, Some, None, Result}
use Rattle.std.specs.Result.{IsErrAnd}
use mathlib.Core.Path.{◌≡◌, refl, sym, ap, ◌∙◌}
use mathlib.Core.Bool.{Bool, true, false, cond}
use mathlib.Core.List.{List, [], ◌∷◌, ◌++◌}
use Prim.Native.Nat.{ℕ, suc, ◌+◌, ◌*◌, ◌<◌, ◌≤◌}
use native.Mathlib.Numerals.{add-one}
use native.Mathlib.Omega.{arith}
use lib.Dec.{eqb, ltb, leb}
use lib.ListN.{length, drop, take, get_or, drop_of_length-le}
use lib.Seq.{drop-cons}
use Rattle.format.specs.Answer.{Answer, answer, refused, mapped, then_answer}
use Rattle.format.specs.Answers.{answer_of}
use Rattle.format.specs.Refusal.{number_of}
use Rattle.format.specs.declared.refusal.Refusal.{Refusal}
use Rattle.format.specs.Listed.{Listed, listed, into}
use Rattle.format.specs.Section.{place, section_of, record_count, within_limit, element_size}
use Rattle.format.specs.Step.{Step}
use Rattle.format.specs.declared.section.BspData.{BspData}
use Rattle.format.specs.declared.section.BspFileSection.{BspFileSection}
use Rattle.format.specs.declared.section.BspFileSectionId.TheVariants.{Leaves, Visibility}
use Rattle.records.specs.Access.{reading, read_at, record_of}
use Rattle.records.specs.Leaf.{leaf_at, leaf_of}
use Rattle.records.specs.declared.leaf.BspLeaf.{BspLeaf}
use Rattle.vis.specs.Row.{row_from, row_at}
use Rattle.vis.specs.Pvs.{visibility_of, section_row, row_of, pvs_of}
use Rattle.team.specs.Team.{lists_of}
use Rattle.team.specs.Starts.{whether}
use Rattle.team.proofs.Unions.{only33, row_only}
use Rattle.format.proofs.Answers.{handed_answer}

-- an answer, or a refusal other than 22
abbrev pub not22 : {A : Type 0} → Answer A → Type 0
not22 (answer a) = Unit
not22 (refused n) = n ≡ 22 → ⊥

of_33 : (a : Answer (List ℕ)) → only33 a → not22 a
of_33 (answer l) o = tt
of_33 (refused n) o = λ e. omega arith

data_not22 : (file : List ℕ) (z : BspFileSection) → not22 (visibility_of file z)
unfolding visibility_of
data_not22 file z = go (eqb z.size 0) (within_limit Visibility z.size) (leb (z.offset + z.size) (length file)) (take z.size (drop z.offset file))
  where
    go : (a b c : Bool) (l : List ℕ) → not22 (cond a (answer []) (cond b (cond c (answer l) (refused 23)) (refused 23)))
    go true b c l = tt
    go false true true l = tt
    go false true false l = λ e. omega arith
    go false false c l = λ e. omega arith

leaf_not22 : (file : List ℕ) (map : BspData) (leaf : ℕ) → not22 (leaf_of file map leaf)
unfolding record_of place
leaf_not22 file map leaf =
    go (leb (record_count Leaves (section_of Leaves map)) leaf) (within_limit Leaves (record_count Leaves (section_of Leaves map)))
    (leb ((section_of Leaves map).offset + leaf * element_size Leaves + element_size Leaves) (length file)) ((section_of Leaves map).offset + leaf * element_size Leaves)
  where
    read : (r : Step BspLeaf) → not22 (reading r)
    read (Step.ok v p) = tt
    read (Step.refused n) = λ e. omega arith

    go : (a b c : Bool) (p : ℕ) → not22 (read_at (cond a (refused 20) (cond b (cond c (answer p) (refused 23)) (refused 23))) (λ q. leaf_at file q))
    go true b c p = λ e. omega arith
    go false true true p = read (leaf_at file p)
    go false true false p = λ e. omega arith
    go false false c p = λ e. omega arith

-- a visibility list is not refused with 22
pub pvs_not22 : (file : List ℕ) (map : BspData) (leaf count : ℕ) → not22 (pvs_of file map leaf count)
unfolding pvs_of section_row row_at
pvs_not22 file map leaf count = go (eqb leaf 0) (leaf_of file map leaf) (leaf_not22 file map leaf)
  where
    at_offset : (t : Bool) (bytes : List ℕ) → not22 (cond t (refused 33) (row_from count 1 bytes))
    at_offset true bytes = λ e. omega arith
    at_offset false bytes = of_33 (row_from count 1 bytes) (row_only count 1 bytes)

    in_section : (v : Answer (List ℕ)) (o : ℕ) → not22 v → not22 (then_answer v (λ visibility. row_at visibility o count))
    in_section (answer v) o h = at_offset (ltb (length v) o) (drop o v)
    in_section (refused n) o h = h

    row : (o : Option ℕ) → not22 (row_of file map count o)
    row None = tt
    row (Some o) = in_section (visibility_of file map.visibility) o (data_not22 file map.visibility)

    go : (t : Bool) (l : Answer BspLeaf) → not22 l → not22 (cond t (answer []) (then_answer l (λ l. row_of file map count l.vis_offset)))
    go true l h = tt
    go false (answer l) h = row l.vis_offset
    go false (refused n) h = h

-- what is left in a lent list tells whether there is an answer
pub told_listed : (a : Answer (List ℕ)) (lent l : List ℕ) (n : ℕ) → listed (answer n) l ≡ into a lent → answer tt ≡ whether a
told_listed (answer xs) lent l n e = refl
told_listed (refused k) lent l n e =
    let q : ◌≡◌ {A = Answer ℕ} (answer n) (refused k) = ap (λ (x : Listed). x.answered) e in
    let z : ◌≡◌ {A = ℕ} 0 1 = cc in
    absurd (omega arith)

pub told_short : (a : Answer (List ℕ)) (lent l : List ℕ) → not22 a → listed (refused 22) l ≡ into a lent → answer tt ≡ whether a
told_short (answer xs) lent l h e = refl
told_short (refused j) lent l h e =
    let q : ◌≡◌ {A = Answer ℕ} (refused 22) (refused j) = ap (λ (x : Listed). x.answered) e in
    let z : 22 ≡ j = cc in
    absurd (h (sym z))

pub told_refused : (a : Answer (List ℕ)) (lent l : List ℕ) (k : ℕ) → (k ≡ 22 → ⊥) → listed (refused k) l ≡ into a lent → refused k ≡ whether a
told_refused (answer xs) lent l k h e = go (ltb (length lent) (length xs)) (xs ++ drop (length xs) lent) e
  where
    go : (t : Bool) (m : List ℕ) → listed (refused k) l ≡ cond t (listed (refused 22) lent) (listed (answer (length xs)) m) → ◌≡◌ {A = Answer Unit} (refused k) (answer tt)
    go true m q =
        let r : ◌≡◌ {A = Answer ℕ} (refused k) (refused 22) = ap (λ (x : Listed). x.answered) q in
        let z : k ≡ 22 = cc in
        absurd (h z)
    go false m q =
        let r : ◌≡◌ {A = Answer ℕ} (refused k) (answer (length xs)) = ap (λ (x : Listed). x.answered) q in
        let z : ◌≡◌ {A = ℕ} 0 1 = cc in
        absurd (omega arith)
told_refused (refused j) lent l k h e =
    let q : ◌≡◌ {A = Answer ℕ} (refused k) (refused j) = ap (λ (x : Listed). x.answered) e in
    let z : k ≡ j = cc in
    rw z

-- the players one after another
module _ (file : List ℕ) (map : BspData) (count : ℕ) where
  abbrev pub asked : List ℕ → Answer Unit
  asked leaves = whether (lists_of file map count leaves)

  first_asked : (leaf : ℕ) (leaves : List ℕ) → answer tt ≡ whether (pvs_of file map leaf count) → asked leaves ≡ asked (leaf ∷ leaves)
  unfolding lists_of
  first_asked leaf leaves e = go (pvs_of file map leaf count) (lists_of file map count leaves) e
    where
      go : (a : Answer (List ℕ)) (b : Answer (List (List ℕ))) → answer tt ≡ whether a → whether b ≡ whether (then_answer a (λ l. mapped (λ (ls : List (List ℕ)). l ∷ ls) b))
      go (answer l) (answer ls) e = refl
      go (answer l) (refused k) e = refl
      go (refused k) b e = let z : ◌≡◌ {A = ℕ} 0 1 = cc in absurd (omega arith)

  first_refused : (leaf : ℕ) (leaves : List ℕ) (k : ℕ) → refused k ≡ whether (pvs_of file map leaf count) → refused k ≡ asked (leaf ∷ leaves)
  unfolding lists_of
  first_refused leaf leaves k e = go (pvs_of file map leaf count) (lists_of file map count leaves) e
    where
      go : (a : Answer (List ℕ)) (b : Answer (List (List ℕ))) → refused k ≡ whether a → refused k ≡ whether (then_answer a (λ l. mapped (λ (ls : List (List ℕ)). l ∷ ls) b))
      go (answer l) b e = let z : ◌≡◌ {A = ℕ} 0 1 = cc in absurd (omega arith)
      go (refused j) b e = e

  none_asked : answer tt ≡ asked []
  unfolding lists_of
  none_asked = refl

  -- the players before the i-th are answered
  module _ (leaves : List ℕ) (i : ℕ) (p : asked (drop i leaves) ≡ asked leaves) where
    pub ask_ends : length leaves ≤ i → answer tt ≡ asked leaves
    ask_ends h = none_asked ∙ sym (ap asked (drop_of_length-le leaves h)) ∙ p

    module _ (h : i < length leaves) where
      pub ask_refused : (e : Refusal) (q : Result Unit Refusal) → refused (number_of e) ≡ whether (pvs_of file map (get_or leaves i 0) count)
          → IsErrAnd q (λ d. d ≡ e) → answer_of q ≡ asked leaves
      ask_refused e q r d =
          handed_answer q e d ∙ first_refused (get_or leaves i 0) (drop (suc i) leaves) (number_of e) r ∙ sym (ap asked (drop-cons leaves i 0 h)) ∙ p

      pub ask_next : answer tt ≡ whether (pvs_of file map (get_or leaves i 0) count) → asked (drop (i + 1) leaves) ≡ asked leaves
      ask_next e = rw add-one (first_asked (get_or leaves i 0) (drop (suc i) leaves) e ∙ sym (ap asked (drop-cons leaves i 0 h)) ∙ p)
