-- Each way through a step of a descent for contents, by what the readers answer. Assumes nothing.
use Prim.Native.Nat.{ℕ, zero, suc, ◌-◌, ◌<◌, ◌≤◌}
use native.Mathlib.Omega.{arith}
use mathlib.Core.Path.{◌≡◌, sym, ap, ◌∙◌}
use mathlib.Core.Bool.{Bool}
use mathlib.Core.List.{List}
use borrow.Author.Tests.{lt-ltb, le-ltb}
use Rattle.format.specs.Answer as Ans
use Rattle.format.specs.Answer.{Answer, answer}
use Rattle.format.specs.declared.contents.BspLeafContents.{BspLeafContents}
use Rattle.math.specs.declared.vector.Vector3.{Vector3}
use Rattle.walk.specs.Table.{node, end, Table}
use Rattle.walk.specs.Walk.{enter}
use Rattle.nodes.specs.Tables.{End}
use Rattle.nodes.specs.Fast.{child_of, end_of, word_on, contents_met}
use Rattle.nodes.specs.Fast as Fast
use Rattle.nodes.specs.Walks.{child_by_distance}
use Rattle.nodes.specs.declared.table.HullTable.{HullTable}
use Rattle.nodes.specs.declared.table.Tables.{Tables}
use Rattle.nodes.specs.declared.read.Words.{Words as WordsT}
use Rattle.nodes.proofs.Entering.{child_node, child_end}
use Rattle.line.specs.Line.{contents_on, contents_at, contents_from}
use Rattle.line.specs.Private.{child_at, contents_beside, node_for}
use Rattle.line.proofs.Seen.{Made, Closed, outside, spent, unread, toward, not_toward}

module _ {E : Type 0} (T : Table E BspLeafContents) (p : Vector3) where
  pub look_outside : (k i : ℕ) → T.nodes.count ≤ i → contents_from T k i p ≡ Ans.refused 30
  unfolding contents_from
  look_outside zero i h = simp (le-ltb _ _ h)
  look_outside (suc k) i h = simp (le-ltb _ _ h)

  pub look_spent : (k i : ℕ) → k ≡ 0 → i < T.nodes.count → contents_from T k i p ≡ Ans.refused 32
  unfolding contents_from
  look_spent k i z h = rw z (simp (lt-ltb _ _ h))

  module _ (k j i : ℕ) (more : k ≡ suc j) (h : i < T.nodes.count) where
    pub look_step : contents_from T k i p ≡ contents_at T (λ n. contents_from T j n p) p (enter T i)
    unfolding contents_from
    look_step = rw more (simp (lt-ltb _ _ h))

    pub look_unread : (n : ℕ) → enter T i ≡ Ans.refused n → contents_from T k i p ≡ Ans.refused n
    look_unread n m = look_step ∙ ap (contents_at T (λ n. contents_from T j n p) p) m

-- the child that a word stands for
module _ (f : List ℕ) (t : Tables) (go : ℕ → Answer BspLeafContents) (w : WordsT) (b : Bool) (word : ℕ) (is_word : word ≡ word_on w b) where
  pub look_child : word < 32768 → contents_on (Fast.table f t) go (child_at t w b) ≡ go word
  look_child h = ap (contents_on (Fast.table f t) go) (child_node t.table w b word is_word h)

  pub look_end : 32768 ≤ word → contents_on (Fast.table f t) go (child_at t w b) ≡ contents_met f t word
  unfolding contents_met
  look_end h = ap (contents_on (Fast.table f t) go) (child_end t.table w b word is_word h)

pub word_node : (tab : HullTable) (word : ℕ) → word < 32768 → child_of tab word ≡ node word
word_node tab word h = simp (lt-ltb _ _ h)

pub word_end : (tab : HullTable) (word : ℕ) → 32768 ≤ word → child_of tab word ≡ end (end_of tab word)
word_end tab word h = simp (le-ltb _ _ h)

-- at a node, by the child's word
module _ (f : List ℕ) (t : Tables) (k i : ℕ) (p : Vector3) where
  abbrev T : Table End BspLeafContents
  T = Fast.table f t

  pub look_closed : (n : ℕ) → Closed f t i k n → Ans.refused n ≡ contents_from T k i p
  look_closed n (outside h e) = ap Ans.refused e ∙ sym (look_outside T p k i h)
  look_closed n (spent h z e) = ap Ans.refused e ∙ sym (look_spent T p k i z h)
  look_closed n (unread h z m) = sym (look_unread T p k (k - 1) i (omega (arith, z)) h n m)

  module _ (word : ℕ) (M : Made (child_by_distance p) f t i k (child_of t.table word)) where
    pub goes : contents_from T k i p ≡ contents_on T (λ n. contents_from T (k - 1) n p) (child_of t.table word)
    goes =
        look_step T p k (k - 1) i (omega (arith, M.left)) M.in_range ∙ ap (contents_at T (λ n. contents_from T (k - 1) n p) p) M.entered
        ∙ ap (contents_on T (λ n. contents_from T (k - 1) n p)) M.is_made

    pub to_node : word < 32768 → contents_from T (k - 1) word p ≡ contents_from T k i p
    to_node l = sym (goes ∙ ap (contents_on T (λ n. contents_from T (k - 1) n p)) (word_node t.table word l))

    pub to_end : 32768 ≤ word → contents_met f t word ≡ contents_from T k i p
    unfolding contents_met
    to_end l = sym (goes ∙ ap (contents_on T (λ n. contents_from T (k - 1) n p)) (word_end t.table word l))

  -- by what the reader of the child on the point's side says
  pub look_fails : (n : ℕ) → Ans.refused n ≡ node_for (child_by_distance p) f t i k → Ans.refused n ≡ contents_from T k i p
  look_fails n e = look_closed n (not_toward f t i k p n e)

  module _ (word : ℕ) (e : answer (child_of t.table word) ≡ node_for (child_by_distance p) f t i k) where
    pub look_has : 0 < k
    look_has = let m = toward f t i k p word e in omega (arith, m.left)

    pub look_node : word < 32768 → contents_from T (k - 1) word p ≡ contents_from T k i p
    look_node = to_node word (toward f t i k p word e)

    pub look_end_met : 32768 ≤ word → contents_met f t word ≡ contents_from T k i p
    look_end_met = to_end word (toward f t i k p word e)

-- the child beside a crossing
module _ (f : List ℕ) (t : Tables) (w : WordsT) (b : Bool) (p : Vector3) {word : ℕ} (is_word : word ≡ word_on w b) where
  pub beside_node : word < 32768 → contents_from (Fast.table f t) 512 word p ≡ contents_beside f t w b p
  unfolding contents_beside
  beside_node h = sym (look_child f t (λ n. contents_from (Fast.table f t) 512 n p) w b word is_word h)

  pub beside_end : 32768 ≤ word → contents_met f t word ≡ contents_beside f t w b p
  unfolding contents_beside
  beside_end h = sym (look_end f t (λ n. contents_from (Fast.table f t) 512 n p) w b word is_word h)
