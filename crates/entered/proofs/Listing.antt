-- The list that a call leaves, from the answer of the walk or the trace and from what was written. Assumes nothing.
use Prim.Native.Nat.{ℕ, ◌+◌, ◌^◌, ◌<◌, ◌≤◌}
use mathlib.Core.Path.{◌≡◌, refl, sym, ap, ◌∙◌, subst}
use mathlib.Core.List.{List, ◌++◌}
use native.Mathlib.Omega.{arith}
use lib.ListN.{length, take, drop}
use lib.Seq.{length-take-le, sets, sets-eq}
use Rattle.format.proofs.Answers.{mapped_answer, mapped_refused}
use Rattle.format.proofs.Listing.{into_short, into_list}
use Rattle.format.specs.Answer as Ans
use Rattle.format.specs.Answer.{Answer, answer, mapped}
use Rattle.format.specs.Listed.{listed, into}
use Rattle.walk.specs.Walk.{Outcome, done, refused, held, with_visits}
use Rattle.entered.specs.Lists.{nodes_entered}
use Rattle.phys.specs.declared.Trace.{Trace}
use Rattle.std.specs.Prelude.{Result}
use Rattle.format.specs.Answers.{answer_of}
use Rattle.format.specs.declared.refusal.Refusal.{Refusal}
use Rattle.entered.specs.Onward.{traced_list, says_with}

-- a list of just so many entries is filled with these nodes
abbrev pub Fills : Answer (List ℕ) → List ℕ → List ℕ → Type 0
Fills (answer ns) l x = length ns ≡ length l → x ≡ ns
Fills (Ans.refused n) l x = Unit {0}

-- the visits that stand for so many nodes
abbrev visits : List ℕ → ℕ
visits ns = held (length ns)

module _ {A : Type 0} where
  counted : (o : Outcome A) → mapped visits (nodes_entered o) ≡ mapped (λ (x : A × ℕ). x.1) (with_visits o)
  counted (done a ns) = refl
  counted (refused n) = refl

  module _ (l : List ℕ) where
    -- a refusal leaves the list as it is
    pub declined : (o : Outcome A) (n : ℕ) → Ans.refused n ≡ with_visits o → listed (Ans.refused n) l ≡ into (nodes_entered o) l
    declined o n e = ap (λ (a : Answer (List ℕ)). into a l) (sym (mapped_refused visits (nodes_entered o) n (counted o ∙ ap (mapped (λ (x : A × ℕ). x.1)) (sym e))))

    module _ (a : A) (v : ℕ) (short : length l < 2 ^ 63) where
      entries : (o : Outcome A) → answer (a, v) ≡ with_visits o → (ns : List ℕ) × (nodes_entered o ≡ answer ns) × (held (length ns) ≡ v)
      entries o e = mapped_answer visits (nodes_entered o) v (counted o ∙ ap (mapped (λ (x : A × ℕ). x.1)) (sym e))

      -- fewer entries than visits
      pub too_short : (o : Outcome A) → answer (a, v) ≡ with_visits o → length l < v → listed (Ans.refused 22) l ≡ into (nodes_entered o) l
      too_short o e g =
          let k = entries o e in
          into_short l (nodes_entered o) (length k.0) (sym (ap (mapped length) k.1)) (omega (arith, k.2))

      -- as many entries as visits are filled: a count that is held is above every list's length, so the visits are all
      pub filled : (o : Outcome A) → answer (a, v) ≡ with_visits o → v ≤ length l → (x : List ℕ) → Fills (nodes_entered o) (take v l) x
          → listed (answer v) (x ++ drop v l) ≡ into (nodes_entered o) l
      filled o e g x f =
          let k = entries o e in
          let r : v ≡ length k.0 = omega (arith, k.2) in
          let w : x ≡ k.0 = subst (λ a. Fills a (take v l) x) k.1 f (sym r ∙ sym (length-take-le v l g)) in
          into_list l (nodes_entered o) v x (ap answer w ∙ sym k.1) (ap answer r ∙ sym (ap (mapped length) k.1)) g

-- the nodes of a trace, written from the first entry on
module _ (a : Trace) (v : ℕ) (l : List ℕ) (short : length l < 2 ^ 63) (fits : v ≤ length l) (x : List ℕ) (r : Result (Trace × ℕ) Refusal) where
  by_nodes : (y : Trace) (ns : List ℕ) → held (length ns) ≡ v → x ≡ sets l 0 ns → listed (answer v) x ≡ into (answer ns) l
  by_nodes y ns q is_x =
      let n : v ≡ length ns = omega arith in
      let s : x ≡ ns ++ drop v l = is_x ∙ sets-eq ns l 0 (omega arith) ∙ ap (λ (k : ℕ). ns ++ drop k l) {x = 0 + length ns} {y = v} (omega arith) in
      ap (listed (answer v)) s ∙ into_list l (answer ns) v ns refl (ap answer n) fits

  pub traced_list_lem : (o : Outcome Trace) → answer (a, v) ≡ with_visits o → says_with x r ≡ traced_list 0 l o → listed (answer v) x ≡ into (nodes_entered o) l
  traced_list_lem (done y ns) e w =
      let c : ◌≡◌ {A = Trace × ℕ} (a, v) (y, held (length ns)) = cc in
      let k = mapped_answer (λ (z : Trace × ℕ). (z, x)) (answer_of r) ((y, held (0 + length ns)), sets l 0 ns) w in
      by_nodes y ns (sym (ap (λ (z : Trace × ℕ). z.1) c)) (ap (λ (z : (Trace × ℕ) × List ℕ). z.1) k.2)
  traced_list_lem (refused n) e w = let z : ◌≡◌ {A = ℕ} 0 1 = cc in absurd (omega arith)
