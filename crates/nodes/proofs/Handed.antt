-- What `found_in` says, and what `ends_in` and `look_in` make of it, of whatever bytes they are handed.
-- Assumes nothing.
use Rattle.std.proofs.Common.{◌≡◌, ℕ, zero, suc, ◌+◌, ◌*◌, ◌/◌, ◌<◌, Bool, true, false, ltb, List, [], ◌∷◌, ◌++◌, length, get_or, refl, ap, ◌∙◌, arith, length-append}
use Rattle.std.specs.Prelude.{Result, Ok, Err, cond}
use Rattle.std.specs.Borrow.{Bor}
use Rattle.std.proofs.Common.{sym}
use Rattle.format.specs.Answer as Ans
use Rattle.format.specs.Answer.{Answer, answer, mapped}
use Rattle.format.specs.Refusal.{number_of}
use Rattle.format.specs.declared.refusal.Refusal.{Refusal}
use Rattle.walk.specs.Walk.{Entered, enter}
use Rattle.nodes.specs.Tables.{End, file_table}
use Rattle.nodes.specs.Fast.{Within, node_of, node_size, node_here, plane_here, table}
use Rattle.nodes.specs.Walks.{found_answer, made_at, made_in, MadeIn, MadeOf}
use Rattle.nodes.specs.declared.read.Words.{Words}
use Rattle.nodes.specs.declared.table.HullTable.{HullTable}
use Rattle.nodes.proofs.Making.{on_record, whole_node, whole_none}

-- ---- two lists, one after the other

first_same : (n m : List ℕ) (i : ℕ) → i < length n → get_or n i 0 ≡ get_or (n ++ m) i 0
first_same [] m i h = absurd (omega arith)
first_same (x ∷ n) m zero h = refl
first_same (x ∷ n) m (suc i) h = first_same n m i (omega arith)

second_same : (n m : List ℕ) (i : ℕ) → get_or m i 0 ≡ get_or (n ++ m) (length n + i) 0
second_same [] m i = ap (λ (k : ℕ). get_or m k 0) (omega arith)
second_same (x ∷ n) m i = let e : suc (length n + i) ≡ suc (length n) + i = omega arith in second_same n m i ∙ ap (λ (k : ℕ). get_or (x ∷ (n ++ m)) k 0) e

first_within : (n m : List ℕ) → Within n (n ++ m) 0
first_within n m = record {
  inside = rw (length-append n m) (omega arith);
  same = λ i h. first_same n m i h ∙ ap (λ (k : ℕ). get_or (n ++ m) k 0) (omega arith);
}

second_within : (n m : List ℕ) → Within m (n ++ m) (length n)
second_within n m = record { inside = rw (length-append n m) (omega arith); same = λ i h. second_same n m i }

-- ---- what is made of a node in any bytes

module _ {X : Type 0} (make : Entered End → X) (k : Bool) (n m : List ℕ) (i : ℕ) where
  of_bytes : ltb i (length n / node_size k) ≡ true → (x : Answer X) → MadeIn make k n m (i * node_size k) x → x ≡ made_in make k n m i
  of_bytes f x g =
      rw f
      (g (n ++ m) 0 (length n) (first_within n m) (second_within n m)
      ∙ ap (λ (at : ℕ). made_at make k (n ++ m) at (length n) (length m / 20)) (omega arith))

  of_none : ltb i (length n / node_size k) ≡ false → Ans.refused 20 ≡ made_in make k n m i
  of_none f = rw f refl

  pub there : ltb i (length n / node_size k) ≡ true → (x : HullTable → Answer X) → MadeIn make k n m (i * node_size k) (x (file_table k)) → MadeOf make k n m i x
  there f x g = (of_bytes f (x (file_table k)) g, λ s t whole read on is-k. whole_node s t n m whole read on k is-k i make f x g)

  pub not_there : ltb i (length n / node_size k) ≡ false → MadeOf make k n m i (λ t. Ans.refused 20)
  not_there f = (of_none f, λ s t whole read on is-k. whole_none s t n m whole read on k is-k i make f)

-- what is made of a node and its plane that were found
module _ {X : Type 0} (make : Entered End → X) (k : Bool) (n m : List ℕ) (i : ℕ) (r : Result (Words × Bor (List ℕ)) Refusal) (g : MadeOf (λ x. x) k n m i (λ t. found_answer t r)) where
  in_bytes : mapped make (made_in (λ x. x) k n m i) ≡ made_in make k n m i
  in_bytes = go (ltb i (length n / node_size k))
    where
      go : (b : Bool) → mapped make (cond b (made_at (λ x. x) k (n ++ m) (i * node_size k) (length n) (length m / 20)) (Ans.refused 20))
          ≡ cond b (made_at make k (n ++ m) (i * node_size k) (length n) (length m / 20)) (Ans.refused 20)
      go true = on_record make k n m (i * node_size k) (n ++ m) (length n) (length m / 20) (node_here k (n ++ m) (i * node_size k))
      go false = refl

  once : (a : Answer (Entered End)) → mapped make (mapped (λ x. x) a) ≡ mapped make a
  once (answer a) = refl
  once (Ans.refused e) = refl

  made : (y : Result (Words × Bor (List ℕ)) Refusal) → r ≡ y → MadeOf make k n m i (λ t. mapped make (found_answer t y))
  made y q = (
    sym (ap (λ z. mapped make (found_answer (file_table k) z)) q) ∙ ap (mapped make) g.0 ∙ in_bytes,
    λ s t whole read on is-k. sym (ap (λ z. mapped make (found_answer t.table z)) q) ∙ ap (mapped make) (g.1 s t whole read on is-k) ∙ once (enter (table s t) i),
  )

  pub none_found : (x : Refusal) → r ≡ Err x → MadeOf make k n m i (λ t. Ans.refused (number_of x))
  none_found x q = made (Err x) q

  pub one_found : (w : Words) (b : Bor (List ℕ)) → r ≡ Ok (w, b) → (x : HullTable → X) → ((t : HullTable) → x t ≡ make (record { nd = node_of t w; plane = plane_here b.now 0 })) → MadeOf make k n m i (λ t. answer (x t))
  one_found w b q x is_x = (
    ap answer (is_x (file_table k)) ∙ (made (Ok (w, b)) q).0,
    λ s t whole read on is-k. ap answer (is_x t.table) ∙ (made (Ok (w, b)) q).1 s t whole read on is-k,
  )
