-- Each way through a step of two walks side by side, and the two together.
-- Assumes nothing.
use Rattle.std.proofs.Common.{Ok, Err, Some}
use Rattle.std.specs.Prelude.{Result, Option, None}
use Rattle.std.proofs.Common.{◌≡◌, ℕ, suc, ◌+◌, ◌-◌, ◌/◌, ◌<◌, ◌≤◌, Bool, true, false, cond, ltb, List, length, sym, refl, ap, ◌∙◌, arith, ltb-false, ltb-true, le-ltb, lt-ltb}
use Rattle.format.specs.Answer as Ans
use Rattle.format.specs.Answer.{Answer, answer}
use Rattle.format.specs.Refusal.{number_of}
use Rattle.format.specs.declared.refusal.Refusal.{Refusal}
use Rattle.math.specs.declared.vector.Vector3.{Vector3}
use Rattle.walk.specs.Walk.{with_visits, walk, point_walk}
use Rattle.walk.specs.Private.{after}
use Rattle.walk.proofs.Steps.{walk_outside, walk_spent}
use Rattle.nodes.specs.Tables.{End}
use Rattle.nodes.specs.Fast.{end_of, is_render, node_size, table}
use Rattle.nodes.specs.Walks.{ends, are_whole, made_from, child_toward, onward_answer, Read}
use Rattle.nodes.specs.Lanes.{landed, both, walk_two, rest, counted, both_go, Steps, StepsIn, TwoIn, GoesOn}
use Rattle.nodes.specs.Answers.{one_answer, two_answer}
use Rattle.nodes.specs.Quick.{or_nothing}
use Rattle.nodes.specs.declared.lanes.Lane.{Lane}
use Rattle.nodes.specs.declared.table.Tables.{Tables}
use Rattle.nodes.proofs.Making.{nodes_counted}
use Rattle.nodes.proofs.Stepping.{at_first, step_refused, step_node, step_end}

-- ---- a step

module _ (s : List ℕ) (t : Tables) (p : Vector3) (w v : ℕ) where
  rest_node : w < 32768 → rest s t p w v ≡ after v (walk (ends (table s t)) (t.nodes.count - v) w p)
  unfolding rest
  rest_node h = simp (lt-ltb w 32768 h)

  rest_end : 32768 ≤ w → rest s t p w v ≡ answer (end_of t.table w, v)
  unfolding rest
  rest_end h = simp (le-ltb w 32768 h)

module _ (s : List ℕ) (t : Tables) (p : Vector3) (w v : ℕ) where
  counted_node : w < 32768 → counted w v ≡ v + 1
  unfolding counted
  counted_node h = simp (lt-ltb w 32768 h)

  counted_end : 32768 ≤ w → counted w v ≡ v
  unfolding counted
  counted_end h = simp (le-ltb w 32768 h)

  pub at_an_end : w < 65536 → 32768 ≤ w → Steps s t p w v w
  at_an_end l h =
      record {
        goes = λ z. ap (λ (x : ℕ). rest s t p w x) (sym (counted_end h));
        stops = λ z. absurd (omega (arith, l, z));
      }

  stopped : (n : ℕ) → rest s t p w v ≡ Ans.refused n → Steps s t p w v 65536
  stopped n e = record { goes = λ z. absurd (omega (arith, z)); stops = λ z. (n, e) }

  pub outside : w < 32768 → t.nodes.count ≤ w → Steps s t p w v 65536
  outside l h = stopped 30 (rest_node s t p w v l ∙ ap (after v) (walk_outside (ends (table s t)) p (t.nodes.count - v) w h))

  pub spent : w < 32768 → w < t.nodes.count → t.nodes.count ≤ v → Steps s t p w v 65536
  spent l h g = stopped 31 (rest_node s t p w v l ∙ ap (after v) (walk_spent (ends (table s t)) p (t.nodes.count - v) w (omega arith) h))

  module _ (l : w < 32768) (h : w < t.nodes.count) (g : v < t.nodes.count) (small : t.nodes.count < 4294967296) (r : Result ℕ Refusal) (is-r : onward_answer t.table r ≡ made_from (child_toward p) s t w) where
    one_less : t.nodes.count - v ≡ suc (t.nodes.count - (v + 1))
    one_less = omega (arith, g)

    pub refused_step : (x : Refusal) → r ≡ Err x → Steps s t p w v 65536
    refused_step x q = stopped (number_of x) (rest_node s t p w v l ∙ step_refused s t p v (t.nodes.count - v) (t.nodes.count - (v + 1)) w one_less h r is-r x q)

    next : (n : ℕ) → r ≡ Ok n → (b : Bool) → ltb n 32768 ≡ b → rest s t p w v ≡ rest s t p n (v + 1)
    next n q true e =
        rest_node s t p w v l
        ∙ step_node s t p v (t.nodes.count - v) (t.nodes.count - (v + 1)) w one_less h r is-r n q (ltb-true n 32768 e)
        ∙ sym (rest_node s t p n (v + 1) (ltb-true n 32768 e))
    next n q false e =
        rest_node s t p w v l
        ∙ step_end s t p v (t.nodes.count - v) (t.nodes.count - (v + 1)) w one_less h r is-r n q t.nodes.count (ltb-false n 32768 e) g (omega (arith, small))
        ∙ sym (rest_end s t p n (v + 1) (ltb-false n 32768 e))

    pub word_step : (n : ℕ) → r ≡ Ok n → n < 65536 → Steps s t p w v n
    word_step n q f =
        record {
          goes = λ z. next n q (ltb n 32768) refl ∙ ap (λ (x : ℕ). rest s t p n x) (sym (counted_node l));
          stops = λ z. absurd (omega (arith, f, z));
        }

-- ---- two walks

both_first : {A : Type 0} (x y : Answer A) (n : ℕ) → x ≡ Ans.refused n → both x y ≡ Ans.refused 0
both_first x y n e = rw e

both_second : {A : Type 0} (x y : Answer A) (n : ℕ) → y ≡ Ans.refused n → both x y ≡ Ans.refused 0
both_second (answer a) y n e = rw e
both_second (Ans.refused m) y n e = refl

rest_first : (s : List ℕ) (t : Tables) (p : Vector3) (w : ℕ) → landed s t p w ≡ rest s t p w 0
unfolding landed rest
rest_first s t p w = go (ltb w 32768)
  where
    go : (b : Bool) → cond b (with_visits (point_walk (ends (table s t)) w p)) (answer (end_of t.table w, 0)) ≡ cond b (after 0 (walk (ends (table s t)) (t.nodes.count - 0) w p)) (answer (end_of t.table w, 0))
    go true = at_first (ends (table s t)) p t.nodes.count w
    go false = refl

pub both_nodes : (a b : ℕ) → both_go a b ≡ true → (a < 32768) × (b < 32768)
unfolding both_go
both_nodes a b e = go (ltb a 32768) refl e
  where
    go : (x : Bool) → ltb a 32768 ≡ x → cond x (ltb b 32768) false ≡ true → (a < 32768) × (b < 32768)
    go true q z = (ltb-true a 32768 q, ltb-true b 32768 z)
    go false q z = let y : ◌≡◌ {A = ℕ} 0 1 = cc in absurd (omega arith)

pub visit_node : (w v : ℕ) → w < 32768 → v + 1 ≡ counted w v
unfolding counted
visit_node w v h = simp (lt-ltb w 32768 h)

-- an answer, or none, of the first of two is one of the two
pub both_told : {A : Type 0} (x y : Answer A) → both (or_nothing x) (or_nothing y) ≡ both x y
both_told (answer a) (answer b) = refl
both_told (answer a) (Ans.refused n) = refl
both_told (Ans.refused n) y = refl

-- one walk, by the bytes nb of the nodes and mb of the planes
module _ (nb mb : List ℕ) (render : Bool) (count : ℕ) (p : Vector3) (first before : ℕ) where
  -- the walk from the word w on, after v visits, is that from the first word on
  pub record Along (w v : ℕ) : Type 0 where
    pub same : (s : List ℕ) (t : Tables) → Read s t nb mb true → render ≡ is_render t.table → count ≡ t.nodes.count → rest s t p first before ≡ rest s t p w v
    pub one : w < 65536
    pub few : v ≤ count

  pub along_first : first < 65536 → before ≤ count → Along first before
  along_first f g = record { same = λ s t w k l. refl; one = f; few = g }

  module _ (w v : ℕ) (g : Along w v) where
    pub along_ends : 32768 ≤ w → GoesOn nb mb render count p first before (λ t. one_answer t (Some (record { word = w; visits = v })))
    along_ends h s t x k l = sym (ap or_nothing (g.same s t x k l ∙ rest_end s t p w v h))

    module _ (c : ℕ) (f : StepsIn nb mb render count p w v c) where
      pub along_stops : 65536 ≤ c → GoesOn nb mb render count p first before (λ t. one_answer t None)
      along_stops z s t x k l = let y = (f s t true x refl k l).stops z in sym (ap or_nothing (g.same s t x k l ∙ y.1))

      pub along_on : w < 32768 → c < 65536 → v < count → Along c (v + 1)
      along_on h i m =
          record {
            same = λ s t x k l. g.same s t x k l ∙ (f s t true x refl k l).goes i ∙ ap (λ (n : ℕ). rest s t p c n) (sym (visit_node w v h));
            one = i;
            few = omega (arith, m);
          }

-- by the bytes nb of the nodes and mb of the planes
module _ (nb mb : List ℕ) (render : Bool) (count : ℕ) (p q : Vector3) (first second : ℕ) where
  abbrev Both : ((s : List ℕ) → (t : Tables) → Answer ((End × ℕ) × (End × ℕ))) → Type 0
  Both x = (s : List ℕ) (t : Tables) → Read s t nb mb true → render ≡ is_render t.table → count ≡ t.nodes.count → both (landed s t p first) (landed s t q second) ≡ x s t

  -- fewer nodes in the bytes than that: they are of no such table
  pub fewer_nodes : length nb / node_size render < count → TwoIn nb mb render count first second p q (λ t. Ans.refused 0)
  fewer_nodes h s t w k l = absurd (omega (arith, h, l, nodes_counted s t nb mb true w refl render k))

  -- the two walks from the words a and b on, after m and n visits
  pub record Beside (a b m n : ℕ) : Type 0 where
    pub same : Both (λ s t. both (rest s t p a m) (rest s t q b n))
    pub one : a < 65536
    pub other : b < 65536
    pub few : m ≤ count
    pub fewer : n ≤ count

  pub beside_first : first < 65536 → second < 65536 → Beside first second 0 0
  beside_first f g =
      record {
        same = λ s t w k l. rw (rest_first s t p first, rest_first s t q second);
        one = f;
        other = g;
        few = omega arith;
        fewer = omega arith;
      }

  module _ (a b m n : ℕ) (g : Beside a b m n) where
    -- each of them goes on alone
    module _ (x y : Option Lane) (f : GoesOn nb mb render count p a m (λ t. one_answer t x)) (h : GoesOn nb mb render count q b n (λ t. one_answer t y)) where
      told : (s : List ℕ) (t : Tables) → Read s t nb mb true → render ≡ is_render t.table → count ≡ t.nodes.count → both (one_answer t.table x) (one_answer t.table y) ≡ both (landed s t p first) (landed s t q second)
      told s t w k l = rw (f s t w k l, h s t w k l) (both_told (rest s t p a m) (rest s t q b n) ∙ sym (g.same s t w k l))

      pub none_second : y ≡ None → TwoIn nb mb render count first second p q (λ t. Ans.refused 0)
      none_second e s t w k l = go (one_answer t.table x) ∙ ap (λ (z : Option Lane). both (one_answer t.table x) (one_answer t.table z)) (sym e) ∙ told s t w k l
        where
          go : (z : Answer (End × ℕ)) → Ans.refused 0 ≡ both z (Ans.refused 0)
          go (answer v) = refl
          go (Ans.refused v) = refl

      pub both_some : (u v : Lane) → x ≡ Some u → y ≡ Some v → TwoIn nb mb render count first second p q (λ t. two_answer t (Some (u, v)))
      both_some u v d e s t w k l = ap (λ (z : Option Lane). both (one_answer t.table z) (one_answer t.table (Some v))) (sym d) ∙ ap (λ (z : Option Lane). both (one_answer t.table x) (one_answer t.table z)) (sym e) ∙ told s t w k l

    pub none_first : (x : Option Lane) → GoesOn nb mb render count p a m (λ t. one_answer t x) → x ≡ None → TwoIn nb mb render count first second p q (λ t. Ans.refused 0)
    none_first x f e s t w k l =
        ap (λ (z : Answer (End × ℕ)). both z (or_nothing (rest s t q b n))) (ap (one_answer t.table) (sym e) ∙ f s t w k l)
        ∙ both_told (rest s t p a m) (rest s t q b n) ∙ sym (g.same s t w k l)

    pub stops_first : (c : ℕ) → StepsIn nb mb render count p a m c → 65536 ≤ c → TwoIn nb mb render count first second p q (λ t. Ans.refused 0)
    stops_first c f z s t w k l = let y = (f s t true w refl k l).stops z in sym (g.same s t w k l ∙ both_first (rest s t p a m) (rest s t q b n) y.0 y.1)

    module _ (c d : ℕ) (f : StepsIn nb mb render count p a m c) (h : StepsIn nb mb render count q b n d) where
      pub stops_second : 65536 ≤ d → TwoIn nb mb render count first second p q (λ t. Ans.refused 0)
      stops_second z s t w k l = let y = (h s t true w refl k l).stops z in sym (g.same s t w k l ∙ both_second (rest s t p a m) (rest s t q b n) y.0 y.1)

      pub beside_on : a < 32768 → b < 32768 → c < 65536 → d < 65536 → m < count → n < count → Beside c d (m + 1) (n + 1)
      beside_on k l i j u v =
          record {
            same = λ s t w y z. g.same s t w y z ∙ rw ((f s t true w refl y z).goes i, (h s t true w refl y z).goes j, ← visit_node a m k, ← visit_node b n l);
            one = i;
            other = j;
            few = omega (arith, u);
            fewer = omega (arith, v);
          }

-- the same of a file
module _ (s : List ℕ) (t : Tables) (p q : Vector3) (first second : ℕ) where
  pub none_whole : are_whole t (length s) ≡ false → Ans.refused 0 ≡ walk_two s t first second p q
  unfolding walk_two
  none_whole e = rw e

  pub all_whole_two : are_whole t (length s) ≡ true → (x : Answer ((End × ℕ) × (End × ℕ))) → x ≡ both (landed s t p first) (landed s t q second) → x ≡ walk_two s t first second p q
  unfolding walk_two
  all_whole_two e x h = rw e h
