-- The code of the contents of a leaf, by a word of a render node, as one number. Assumes nothing.
use Rattle.std.specs.Prelude.{Result, Ok, Err}
use Rattle.std.proofs.Common.{◌≡◌, ℕ, ◌-◌, ◌<◌, ◌≤◌, true, false, List, length, sym, refl, ap, ◌∙◌}
use Rattle.format.specs.Answers.{answer_of}
use Rattle.format.specs.declared.refusal.Refusal.{Refusal}
use Rattle.nodes.specs.Fast.{is_render, leaf_contents_here, place_in, contents_met}
use Rattle.nodes.specs.Quick.{code_or, word_contents}
use Rattle.nodes.specs.declared.table.Tables.{Tables}
use Rattle.nodes.proofs.Readers.{no_leaf, leaf_not, leaf_at_lem, word_met}

pub of_word : (s : List ℕ) (t : Tables) (w : ℕ) → is_render t.table ≡ false → (c : ℕ) → c ≡ code_or (word_contents w) → c ≡ code_or (contents_met s t w)
of_word s t w e c h = h ∙ ap code_or (word_met s t w false (sym e) refl)

module _ (s : List ℕ) (t : Tables) (w : ℕ) (e : is_render t.table ≡ true) where
  pub no_code : t.leaves.count ≤ 65535 - w → 0 ≡ code_or (contents_met s t w)
  no_code h = ap code_or (no_leaf s t w true (sym e) refl h)

  module _ (h : 65535 - w < t.leaves.count) (r : Result ℕ Refusal) (is-r : answer_of r ≡ place_in t.leaves 28 (length s) (65535 - w)) where
    pub code_not : (x : Refusal) → r ≡ Err x → 0 ≡ code_or (contents_met s t w)
    code_not x q = ap code_or (leaf_not s t w true (sym e) refl h r is-r x q)

    pub code_at : (at : ℕ) → r ≡ Ok at → (c : ℕ) → c ≡ code_or (leaf_contents_here s at) → c ≡ code_or (contents_met s t w)
    code_at at q c is_c = is_c ∙ ap code_or (leaf_at_lem s t w true (sym e) refl h r is-r at (leaf_contents_here s at) q refl)
