-- A node and an end, by which table it is of.
-- Assumes nothing.
use Rattle.nodes.specs.declared.read.Words.{Words}
use Rattle.std.specs.Prelude.{Option, Some, None, Result, Ok, Err}
use Rattle.std.proofs.Common.{◌≡◌, ℕ, zero, suc, ◌-◌, ◌<◌, ◌≤◌, Bool, true, false, List, [], ◌∷◌, length, sym, refl, ap, ◌∙◌, arith, le-ltb, lt-ltb}
use Rattle.format.specs.declared.refusal.Refusal.TheVariants.{Unreadable}
use Rattle.std.specs.Option.{ok_or}
use Rattle.format.specs.Answers.{answer_of}
use Rattle.format.specs.Answer as Ans
use Rattle.format.specs.Answer.{Answer, then_answer}
use Rattle.format.specs.Refusal.{number_of}
use Rattle.format.specs.Code.{contents_of}
use Rattle.format.specs.declared.contents.BspLeafContents.{BspLeafContents}
use Rattle.format.specs.declared.refusal.Refusal.{Refusal}
use Rattle.walk.specs.Walk.{meet}
use Rattle.nodes.specs.Tables.{nth, is_box, file_table}
use Rattle.nodes.specs.Fast.{is_render, place_in, coded, words_answer, render_node_here, clip_node_here, node_in, leaf_contents_here, end_of, table, contents_met}
use Rattle.nodes.specs.Quick.{said, word_contents}
use Rattle.nodes.specs.declared.table.HullTable.{HullTable}
use Rattle.nodes.specs.declared.table.HullTable.TheVariants.{Render, Clip, Box}
use Rattle.nodes.specs.declared.table.Part.{Part}
use Rattle.nodes.specs.declared.table.Tables.{Tables}
use Rattle.nodes.proofs.Places.{none}

-- a table that is not a box's is the file's
pub in_file : (tab : HullTable) → is_box tab ≡ false → file_table (is_render tab) ≡ tab
in_file Render e = refl
in_file Clip e = refl
in_file Box e = let z : ◌≡◌ {A = ℕ} 0 1 = cc in absurd (omega arith)

-- past the end of a list
pub nth_past : {A : Type 0} (l : List A) (i : ℕ) → length l ≤ i → nth l i ≡ Ans.refused 20
nth_past [] i h = refl
nth_past (x ∷ xs) zero h = absurd (omega arith)
nth_past (x ∷ xs) (suc i) h = nth_past xs i (omega arith)

-- ---- the words of a node

-- of the file: by which table it is of
module _ (s : List ℕ) (p : Part) (i : ℕ) (b : Bool) where
  pub no_node : p.count ≤ i → Ans.refused 20 ≡ node_in (file_table b) s p i
  no_node h = by b
    where
      by : (c : Bool) → Ans.refused 20 ≡ node_in (file_table c) s p i
      by true = ap (λ x. then_answer x (render_node_here s)) (none p 24 (length s) i h)
      by false = ap (λ x. then_answer x (clip_node_here s)) (none p 8 (length s) i h)

  module _ (e : b ≡ true) (r : Result ℕ Refusal) (is-r : answer_of r ≡ place_in p 24 (length s) i) where
    pub render_at : (w : Result Words Refusal) (at : ℕ) → r ≡ Ok at → words_answer Render w ≡ render_node_here s at → words_answer (file_table b) w ≡ node_in (file_table b) s p i
    render_at w at q a = rw e (a ∙ sym (ap (λ x. then_answer x (render_node_here s)) (sym is-r ∙ ap answer_of q)))

    pub render_not : (x : Refusal) → r ≡ Err x → Ans.refused (number_of x) ≡ node_in (file_table b) s p i
    render_not x q = rw e (sym (ap (λ y. then_answer y (render_node_here s)) (sym is-r ∙ ap answer_of q)))

  module _ (e : b ≡ false) (r : Result ℕ Refusal) (is-r : answer_of r ≡ place_in p 8 (length s) i) where
    pub clip_at : (w : Result Words Refusal) (at : ℕ) → r ≡ Ok at → words_answer Clip w ≡ clip_node_here s at → words_answer (file_table b) w ≡ node_in (file_table b) s p i
    clip_at w at q a = rw e (a ∙ sym (ap (λ x. then_answer x (clip_node_here s)) (sym is-r ∙ ap answer_of q)))

    pub clip_not : (x : Refusal) → r ≡ Err x → Ans.refused (number_of x) ≡ node_in (file_table b) s p i
    clip_not x q = rw e (sym (ap (λ y. then_answer y (clip_node_here s)) (sym is-r ∙ ap answer_of q)))

-- ---- the contents at an end

module _ (s : List ℕ) (t : Tables) (w : ℕ) (b : Bool) (is_b : b ≡ is_render t.table) where
  a_render : (tab : HullTable) → is_render tab ≡ true → tab ≡ Render
  a_render Render e = refl
  a_render Clip e = let z : ◌≡◌ {A = ℕ} 0 1 = cc in absurd (omega arith)
  a_render Box e = let z : ◌≡◌ {A = ℕ} 0 1 = cc in absurd (omega arith)

  module _ (e : b ≡ true) where
    is_render_lem : t.table ≡ Render
    is_render_lem = a_render t.table (sym is_b ∙ e)

    pub no_leaf : t.leaves.count ≤ 65535 - w → Ans.refused 30 ≡ contents_met s t w
    unfolding contents_met meet
    no_leaf h = rw is_render_lem (simp (le-ltb (65535 - w) t.leaves.count h))

    module _ (h : 65535 - w < t.leaves.count) (r : Result ℕ Refusal) (is-r : answer_of r ≡ place_in t.leaves 28 (length s) (65535 - w)) where
      at_place : then_answer (answer_of r) (leaf_contents_here s) ≡ contents_met s t w
      unfolding contents_met meet
      at_place = rw (is_render_lem, is-r) (simp (lt-ltb (65535 - w) t.leaves.count h))

      pub leaf_at_lem : (at : ℕ) (x : Answer BspLeafContents) → r ≡ Ok at → x ≡ leaf_contents_here s at → x ≡ contents_met s t w
      leaf_at_lem at x q a = a ∙ sym (ap (λ y. then_answer (answer_of y) (leaf_contents_here s)) q) ∙ at_place

      pub leaf_not : (x : Refusal) → r ≡ Err x → Ans.refused (number_of x) ≡ contents_met s t w
      leaf_not x q = sym (ap (λ y. then_answer (answer_of y) (leaf_contents_here s)) q) ∙ at_place

  by_code : (tab : HullTable) → is_render tab ≡ false → coded (contents_of (65536 - w)) ≡ end_of tab w
  by_code Render e = let z : ◌≡◌ {A = ℕ} 0 1 = cc in absurd (omega arith)
  by_code Clip e = refl
  by_code Box e = refl

  told : (k : Option BspLeafContents) → answer_of (ok_or k Unreadable) ≡ meet (table s t) (coded k)
  unfolding meet
  told (Some c) = refl
  told None = refl

  pub code_met : b ≡ false → (k : Option BspLeafContents) → k ≡ contents_of (65536 - w) → answer_of (ok_or k Unreadable) ≡ contents_met s t w
  unfolding contents_met
  code_met e k is-k = told k ∙ ap (λ x. meet (table s t) (coded x)) is-k ∙ ap (meet (table s t)) (by_code t.table (sym is_b ∙ e))

  said_met : (k : Option BspLeafContents) → said k ≡ meet (table s t) (coded k)
  unfolding meet
  said_met (Some c) = refl
  said_met None = refl

  pub word_met : b ≡ false → word_contents w ≡ contents_met s t w
  unfolding contents_met
  word_met e = said_met (contents_of (65536 - w)) ∙ ap (meet (table s t)) (by_code t.table (sym is_b ∙ e))
