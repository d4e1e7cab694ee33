-- Lists that a loop writes entry by entry.
use Prim.Native.Nat.{ℕ, zero, suc, ◌+◌, ◌-◌, ◌*◌, ◌<◌, ◌≤◌}
use native.Mathlib.Omega.{arith}
use native.Mathlib.Numerals.{add-one}
use mathlib.Core.Bool.{Bool, true, false, cond, not}
use mathlib.Core.List.{List, [], ◌∷◌, ◌++◌, append-nil}
use mathlib.Core.Logic.{◌⊎◌, inl, inr}
use mathlib.Core.Path.{◌≡◌, refl, sym, ◌∙◌, ap, subst}
use borrow.Author.Tests.{ltb-false}
use lib.Dec.{eqb, ltb}
use Rattle.std.specs.Prelude.{Option, Some, None, ◌==◌}
use Rattle.std.specs.List.{position_or_len}
use Rattle.std.specs.Option.{unwrap_or}
use lib.ListN.{length, take, drop, get_or, set, length-set}
use lib.Seq.{take-suc, drop-cons, take-suc-set, drop-set-lt, take-set-le, get_or-drop}
use lib.Ieee.{Float, nan, le}
use Rattle.math.specs.Plane as Pl
use Rattle.ways.specs.Groups.{kept, fill, is_front, in_front}
use Rattle.ways.proofs.Divided.{kept_length}
use Rattle.math.specs.declared.vector.Axis.{Axis}
use Rattle.math.specs.declared.vector.Axis.TheVariants.{X, Y, Z}
use Rattle.math.specs.declared.plane.Alignment.{Alignment}
use Rattle.math.specs.declared.plane.Alignment.TheVariants.{Axis as Aligned}
use Rattle.math.specs.declared.plane.Hyperplane.{Hyperplane}
use Rattle.points.specs.Going.{point_at, axis_number, reaches, Sided, first_zero, from}

-- ---- bytes filled in

pub fill_next : (v : ℕ → ℕ) (ids out : List ℕ) (i : ℕ) → i < length ids → fill v (drop i ids) out ≡ fill v (drop (i + 1) ids) (set out (get_or ids i 0) (v (get_or ids i 0)))
unfolding fill
fill_next v ids out i h = rw (add-one, drop-cons ids i 0)

pub fill_all : (v : ℕ → ℕ) (ids out : List ℕ) (i : ℕ) → length ids ≤ i → fill v (drop i ids) out ≡ out
unfolding fill
fill_all v ids out i h = ap (λ (l : List ℕ). fill v l out) (none ids i h)
  where
    none : (l : List ℕ) (i : ℕ) → length l ≤ i → drop i l ≡ []
    none [] zero h = refl
    none [] (suc i) h = refl
    none (x ∷ l) zero h = absurd (omega arith)
    none (x ∷ l) (suc i) h = none l i (omega arith)

-- ---- numbers in order

from_next : (q i : ℕ) → from q (suc i) ≡ from q i ++ ((q + i) ∷ [])
from_next q zero = ap (λ (x : ℕ). x ∷ []) {x = q} {y = q + zero} (omega arith)
from_next q (suc i) = ap (λ (l : List ℕ). q ∷ l) (from_next (suc q) i ∙ ap (λ (x : ℕ). from (suc q) i ++ (x ∷ [])) {x = suc q + i} {y = q + suc i} (omega arith))

pub number_next : (l : List ℕ) (i : ℕ) → i < length l → take i l ≡ from 0 i → take (i + 1) (set l i i) ≡ from 0 (i + 1)
number_next l i h e = rw (add-one) (take-suc-set l i i h ∙ ap (λ (x : List ℕ). x ++ (i ∷ [])) e ∙ ap (λ (x : ℕ). from 0 i ++ (x ∷ [])) {x = i} {y = 0 + i} (omega arith) ∙ sym (from_next 0 i))

-- ---- the first zero

-- where the library finds it
zero_at_is : (l : List ℕ) → position_or_len (λ b. b == 0) l ≡ first_zero l
unfolding first_zero
zero_at_is [] = refl
zero_at_is (b ∷ l) = by (eqb b 0) (zero_at_is l)
  where
    by : (t : Bool) → position_or_len (λ b. b == 0) l ≡ first_zero l → cond (not t) (1 + position_or_len (λ b. b == 0) l) 0 ≡ cond t 0 (suc (first_zero l))
    by true h = refl
    by false h = omega (arith, h)

zero_in : (l : List ℕ) → first_zero l ≤ length l
unfolding first_zero
zero_in [] = omega arith
zero_in (b ∷ l) = by (eqb b 0) (zero_in l)
  where
    by : (t : Bool) → first_zero l ≤ length l → cond t 0 (suc (first_zero l)) ≤ suc (length l)
    by true h = omega arith
    by false h = omega (arith, h)

pub zero_found : (l : List ℕ) (r : Option ℕ) → r ≡ cond (ltb (position_or_len (λ b. b == 0) l) (length l)) (Some (position_or_len (λ b. b == 0) l)) None → unwrap_or r (length l) ≡ first_zero l
zero_found l r e = ap (λ (o : Option ℕ). unwrap_or o (length l)) e ∙ by (ltb (position_or_len (λ b. b == 0) l) (length l)) refl
  where
    by : (t : Bool) → ltb (position_or_len (λ b. b == 0) l) (length l) ≡ t → unwrap_or (cond t (Some (position_or_len (λ b. b == 0) l)) None) (length l) ≡ first_zero l
    by true q = zero_at_is l
    by false q = omega (arith, zero_at_is l, zero_in l, ltb-false (position_or_len (λ b. b == 0) l) (length l) q)

-- ---- points on either side

kept_snoc : (f : ℕ → Bool) (l : List ℕ) (x : ℕ) → kept f (l ++ (x ∷ [])) ≡ kept f l ++ cond (f x) (x ∷ []) []
kept_snoc f [] x = refl
kept_snoc f (y ∷ l) x = go (f y) (kept_snoc f l x)
  where
    go : (b : Bool) → kept f (l ++ (x ∷ [])) ≡ kept f l ++ cond (f x) (x ∷ []) [] → cond b (y ∷ kept f (l ++ (x ∷ []))) (kept f (l ++ (x ∷ []))) ≡ cond b (y ∷ kept f l) (kept f l) ++ cond (f x) (x ∷ []) []
    go true e = ap (λ (l : List ℕ). y ∷ l) e
    go false e = e

kept_in : (f : ℕ → Bool) (l : List ℕ) (x : ℕ) → f x ≡ true → kept f (l ++ (x ∷ [])) ≡ kept f l ++ (x ∷ [])
kept_in f l x h = kept_snoc f l x ∙ ap (λ (b : Bool). kept f l ++ cond b (x ∷ []) []) h

kept_out : (f : ℕ → Bool) (l : List ℕ) (x : ℕ) → f x ≡ false → kept f (l ++ (x ∷ [])) ≡ kept f l
kept_out f l x h = kept_snoc f l x ∙ ap (λ (b : Bool). kept f l ++ cond b (x ∷ []) []) h ∙ append-nil (kept f l)

abbrev rest_of : List ℕ → List ℕ
rest_of [] = []
rest_of (y ∷ k) = k

-- so far: n points in front, of the first i
module _ (f : ℕ → Bool) (ids : List ℕ) where
  pub record Parted (l aside : List ℕ) (n i : ℕ) : Type 0 where
    pub few : n ≤ i
    pub within : i ≤ length ids
    pub as_long : length l ≡ length ids
    pub in_front_lem : take n l ≡ kept f (take i ids)
    pub behind : take (i - n) aside ≡ kept (λ q. not (f q)) (take i ids)
    pub rest : drop i l ≡ drop i ids

  module _ (l aside : List ℕ) (n i : ℕ) (p : Parted l aside n i) (more : i < length l) (wide : i < length aside) where
    abbrev x : ℕ
    x = get_or l i 0

    the_same : x ≡ get_or ids i 0
    the_same =
        let a : get_or (drop i l) 0 0 ≡ get_or (drop i ids) 0 0 = ap (λ (k : List ℕ). get_or k 0 0) p.rest in
        let b : i + 0 ≡ i = omega arith in
        ap (λ (j : ℕ). get_or l j 0) (sym b) ∙ sym (get_or-drop i l 0 0) ∙ a ∙ get_or-drop i ids 0 0 ∙ ap (λ (j : ℕ). get_or ids j 0) b

    one_on : take (i + 1) ids ≡ take i ids ++ (x ∷ [])
    one_on = rw (add-one) (take-suc ids i 0 (omega (arith, p.as_long)) ∙ ap (λ (y : ℕ). take i ids ++ (y ∷ [])) (sym the_same))

    rest_on : drop (i + 1) (set l n x) ≡ drop (i + 1) ids
    rest_on =
        drop-set-lt (i + 1) l n x (omega (arith, p.few))
        ∙ ap (λ (j : ℕ). drop j l) (add-one i) ∙ ap (λ (k : List ℕ). rest_of k) (sym (drop-cons l i 0 more) ∙ p.rest ∙ drop-cons ids i 0 (omega (arith, p.as_long))) ∙ ap (λ (j : ℕ). drop j ids) (sym (add-one i))

    pub parted_front : f x ≡ true → Parted (set l n x) (set aside (i - n) x) (n + 1) (i + 1)
    parted_front b =
        record {
          few = omega (arith, p.few);
          within = omega (arith, p.as_long);
          as_long = length-set l n x ∙ p.as_long;
          in_front_lem = rw (one_on, add-one n) (take-suc-set l n x (omega (arith, p.few)) ∙ ap (λ (k : List ℕ). k ++ (x ∷ [])) p.in_front_lem ∙ sym (kept_in f (take i ids) x b));
          behind = let e : i + 1 - (n + 1) ≡ i - n = omega (arith, p.few) in rw (one_on, e) (take-set-le (i - n) aside (i - n) x (omega arith) ∙ p.behind ∙ sym (kept_out (λ q. not (f q)) (take i ids) x (ap not b)));
          rest = rest_on;
        }

    pub parted_back : f x ≡ false → Parted (set l n x) (set aside (i - n) x) n (i + 1)
    parted_back b =
        record {
          few = omega (arith, p.few);
          within = omega (arith, p.as_long);
          as_long = length-set l n x ∙ p.as_long;
          in_front_lem = rw one_on (take-set-le n l n x (omega arith) ∙ p.in_front_lem ∙ sym (kept_out f (take i ids) x b));
          behind = let e : i + 1 - n ≡ suc (i - n) = omega (arith, p.few) in rw (one_on, e) (take-suc-set aside (i - n) x (omega arith) ∙ ap (λ (k : List ℕ). k ++ (x ∷ [])) p.behind ∙ sym (kept_in (λ q. not (f q)) (take i ids) x (ap not b)));
          rest = rest_on;
        }

    pub parted_next : (b : Bool) → b ≡ f x → (n' : ℕ) → ((b ≡ true) × (n' ≡ n + 1)) ⊎ ((b ≡ false) × (n' ≡ n)) → Parted (set l n x) (set aside (i - n) x) n' (i + 1)
    parted_next b e n' (inl w) = subst (λ (j : ℕ). Parted (set l n x) (set aside (i - n) x) j (i + 1)) (sym w.1) (parted_front (sym e ∙ w.0))
    parted_next b e n' (inr w) = subst (λ (j : ℕ). Parted (set l n x) (set aside (i - n) x) j (i + 1)) (sym w.1) (parted_back (sym e ∙ w.0))

-- ---- along an axis

kept_same : (f g : ℕ → Bool) → ((q : ℕ) → f q ≡ g q) → (l : List ℕ) → kept f l ≡ kept g l
kept_same f g e [] = refl
kept_same f g e (x ∷ l) = ap (λ (b : Bool). cond b (x ∷ kept f l) (kept f l)) (e x) ∙ ap (λ (k : List ℕ). cond (g x) (x ∷ k) k) (kept_same f g e l)

sided_same : (f g : ℕ → Bool) → ((q : ℕ) → f q ≡ g q) → (ids l aside : List ℕ) (n : ℕ) → Sided f ids l aside n → Sided g ids l aside n
sided_same f g e ids l aside n p =
    (p.0, (p.1.0, (p.1.1.0 ∙ kept_same f g e ids, p.1.1.1 ∙ kept_same (λ q. not (f q)) (λ q. not (g q)) (λ q. ap not (e q)) ids)))

side_front : (b : Bool) → is_front (Pl.side_if b) ≡ b
side_front true = refl
side_front false = refl

module _ (cs : List Float) (d : Float) (q : ℕ) where
  by_axis : (a : Axis) → reaches cs (axis_number a) d q ≡ is_front (Pl.side_of (Aligned a) d (point_at cs q))
  unfolding reaches
  by_axis X = ap (λ (j : ℕ). le d (get_or cs j nan)) {x = q * 3 + 0} {y = q * 3} (omega arith) ∙ sym (side_front (le d (get_or cs (q * 3) nan)))
  by_axis Y = sym (side_front (le d (get_or cs (q * 3 + 1) nan)))
  by_axis Z = sym (side_front (le d (get_or cs (q * 3 + 2) nan)))

pub reaches_is : (cs : List Float) (h : Hyperplane) (a : Axis) → h.alignment ≡ Aligned a → (k : ℕ) → k ≡ axis_number a → (q : ℕ) → reaches cs k h.dist q ≡ in_front (point_at cs) h q
unfolding in_front
reaches_is cs h a e k is-k q =
    ap (λ (j : ℕ). reaches cs j h.dist q) is-k ∙ by_axis cs h.dist q a
    ∙ sym (ap (λ (x : Alignment). is_front (Pl.side_of x h.dist (point_at cs q))) e)

pub along_axis : (cs : List Float) (h : Hyperplane) (a : Axis) → h.alignment ≡ Aligned a → (k : ℕ) → k ≡ axis_number a → (ids l aside : List ℕ) (n : ℕ) → Sided (reaches cs k h.dist) ids l aside n → Sided (in_front (point_at cs) h) ids l aside n
along_axis cs h a e k is-k ids l aside n p = sided_same (reaches cs k h.dist) (in_front (point_at cs) h) (reaches_is cs h a e k is-k) ids l aside n p

-- ---- counted, and left as they are where all go one way

pub count_axis : (cs : List Float) (h : Hyperplane) (a : Axis) → h.alignment ≡ Aligned a → (k : ℕ) → k ≡ axis_number a → (ids : List ℕ) → length (kept (reaches cs k h.dist) ids) ≡ length (kept (in_front (point_at cs) h) ids)
count_axis cs h a e k is-k ids = ap length (kept_same (reaches cs k h.dist) (in_front (point_at cs) h) (reaches_is cs h a e k is-k) ids)

module _ (f : ℕ → Bool) where
  none_kept : (g : ℕ → Bool) (l : List ℕ) → length (kept g l) ≡ 0 → (kept g l ≡ []) × (kept (λ q. not (g q)) l ≡ l)
  none_kept g [] e = (refl, refl)
  none_kept g (x ∷ l) e = go (g x) e (none_kept g l)
    where
      go : (b : Bool) → length (cond b (x ∷ kept g l) (kept g l)) ≡ 0 → (length (kept g l) ≡ 0 → (kept g l ≡ []) × (kept (λ q. not (g q)) l ≡ l))
          → (cond b (x ∷ kept g l) (kept g l) ≡ []) × (cond (not b) (x ∷ kept (λ q. not (g q)) l) (kept (λ q. not (g q)) l) ≡ x ∷ l)
      go true e ih = absurd (omega (arith, e))
      go false e ih = ((ih e).0, ap (λ (k : List ℕ). x ∷ k) (ih e).1)

  all_kept : (l : List ℕ) → length (kept f l) ≡ length l → (kept f l ≡ l) × (kept (λ q. not (f q)) l ≡ [])
  all_kept [] e = (refl, refl)
  all_kept (x ∷ l) e = go (f x) e (all_kept l)
    where
      short : length (kept f l) + length (kept (λ q. not (f q)) l) ≡ length l
      short = kept_length f l

      go : (b : Bool) → length (cond b (x ∷ kept f l) (kept f l)) ≡ suc (length l) → (length (kept f l) ≡ length l → (kept f l ≡ l) × (kept (λ q. not (f q)) l ≡ []))
          → (cond b (x ∷ kept f l) (kept f l) ≡ x ∷ l) × (cond (not b) (x ∷ kept (λ q. not (f q)) l) (kept (λ q. not (f q)) l) ≡ [])
      go true e ih = let h : length (kept f l) ≡ length l = omega (arith, e) in (ap (λ (k : List ℕ). x ∷ k) (ih h).0, (ih h).1)
      go false e ih = absurd (omega (arith, e, short))

  -- the list as it is, where none or all are in front
  pub all_behind : (ids : List ℕ) (n : ℕ) → n ≡ length (kept f ids) → n ≡ 0 → (ids ≡ kept f ids ++ kept (λ q. not (f q)) ids) × (0 ≡ length (kept f ids))
  all_behind ids n e z = let k = none_kept f ids (sym e ∙ z) in (sym (ap (λ (l : List ℕ). l ++ kept (λ q. not (f q)) ids) k.0 ∙ k.1), sym z ∙ e)

  pub all_in_front : (ids : List ℕ) (n : ℕ) → n ≡ length (kept f ids) → n ≡ length ids → (ids ≡ kept f ids ++ kept (λ q. not (f q)) ids) × (n ≡ length (kept f ids))
  all_in_front ids n e z = let k = all_kept ids (sym e ∙ z) in (sym (ap (λ (l : List ℕ). l ++ kept (λ q. not (f q)) ids) k.0 ∙ ap (λ (l : List ℕ). ids ++ l) k.1 ∙ append-nil ids), e)
