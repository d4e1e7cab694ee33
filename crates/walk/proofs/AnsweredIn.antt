-- What is shown of walks and traces along a drawn shape: they are answered, enter no node twice and none outside the shape.
use Prim.Native.Nat.{ℕ}
use mathlib.Core.List.Memᴰ
use mathlib.Core.List.{List, [], ◌∷◌, Memᴰ}
use mathlib.Core.Logic.{◌⊎◌, inl, inr}
use mathlib.Core.Path.{◌≡◌}
use borrow.Author.Tests.{lt-ltb}
use Rattle.format.specs.Answer.{answer}
use Rattle.math.specs.declared.plane.Hyperplane.{Hyperplane}
use Rattle.walk.specs.Table.{end, Table}
use Rattle.walk.specs.Walk.{Outcome, done, entered, enter, meet, onto}
use Rattle.walk.specs.Tree.{NoTwice, Reads, IsEnd}
use Rattle.walk.proofs.Shape.{Shape, tip, fork, record_of, Drawn}

pub record AnsweredIn {W : Type 0} (l : List ℕ) (o : Outcome W) : Type 0 where
  pub value : W
  pub nodes : List ℕ
  pub answered : o ≡ done value nodes
  pub once : NoTwice nodes
  pub within : (n : ℕ) → Memᴰ n nodes → Memᴰ n l

unfoldable pub wider : {W : Type 0} {l : List ℕ} (l' : List ℕ) {o : Outcome W} → ((n : ℕ) → Memᴰ n l → Memᴰ n l') → AnsweredIn l o → AnsweredIn l' o
wider l' w g = record { value = g.value; nodes = g.nodes; answered = g.answered; once = g.once; within = λ n m. w n (g.within n m) }

-- i is entered before what is within its two sides
unfoldable pub entered_in : {W : Type 0} (i : ℕ) (l : List ℕ) (o : Outcome W) → NoTwice (i ∷ l) → AnsweredIn l o → AnsweredIn (i ∷ l) (entered i o)
entered_in i l o u g = record {
  value = g.value;
  nodes = i ∷ g.nodes;
  answered = rw g.answered;
  once = (λ m. u.0 (g.within i m), g.once);
  within = λ n m. cases n (Memᴰ.cases_cons m);
}
  where
    cases : (n : ℕ) → (n ≡ i) ⊎ Memᴰ n g.nodes → Memᴰ n (i ∷ l)
    cases n (inl e) = Memᴰ.head e
    cases n (inr m) = Memᴰ.tail (g.within n m)

module _ {E A : Type 0} (T : Table E A) (R : Reads T) where
  -- a drawn node is entered
  pub enters : (i p : ℕ) (f b : Shape E) → Drawn T.nodes (fork i p f b)
      → (h : Hyperplane) × (T.plane_at p ≡ answer h) × (enter T i ≡ answer (record { nd = record_of p f b; plane = h }))
  unfolding enter
  enters i p f b d =
      let w : (h : Hyperplane) × (T.plane_at p ≡ answer h) = R.planes_read p d.2 in
      (w.0, w.1, rw (d.1, lt-ltb p T.nodes.planes d.2, w.1))

  -- an end of the shape answers
  unfoldable pub end_in : {W : Type 0} (go : ℕ → Outcome W) (here : A → W) (e : E) → Drawn T.nodes (tip e) → IsEnd T.nodes e → AnsweredIn [] (onto T go here (end e))
  unfolding meet
  end_in go here e d i =
      let a : (a : A) × (T.leaf_at e ≡ answer a) = R.leaves_read e i d in
      record { value = here a.0; nodes = []; answered = rw (d, a.1); once = tt; within = λ n m. m }
