-- A file of body sizes is accepted in two layouts alone: two fields of 24 bytes, tag 1 and tag 2, in either order.
-- Assumes nothing.
use Prim.Native.Nat.{ℕ, zero, suc, ◌+◌, ◌*◌, ◌≤◌}
use mathlib.Core.Path.{◌≡◌, refl, sym, ap, ◌∙◌, subst}
use mathlib.Core.Logic.{inl, inr, ◌⊎◌}
use mathlib.Core.Bool.{Bool, true, false, cond, ◌&&◌, ◌||◌, false≢true}
use mathlib.Core.List.{List, [], ◌∷◌}
use native.Mathlib.Omega.{arith}
use borrow.Author.Tests.{eqb-true, eq-eqb, ne_eqb, le-leb}
use lib.Dec.{eqb, leb}
use lib.ListN.{length, get_or}
use Rattle.format.specs.Answer.{Answer, refused}
use Rattle.sizes.specs.declared.BodySizes.{BodySizes}
use Rattle.sizes.specs.Sizes.{Field, FieldRow, row, cut_short, size_at, field_at, behind, field_then, row_from, is_known, all_known, times_of, is_whole, place_of, sizes_in, judged, judged_row, sizes_of, starts_field}
use Rattle.sizes.specs.Files.{LaidOut}

-- ---- tests

both : (a b : Bool) → (a && b) ≡ true → (a ≡ true) × (b ≡ true)
both true true e = (refl, refl)
both true false e = absurd (false≢true e)
both false b e = absurd (false≢true e)

-- ---- the fields of a row lie one behind the other, up to the file's end

abbrev pub Follows : List ℕ → ℕ → List Field → Type 0
Follows s at [] = at ≡ length s
Follows s at (f ∷ fs) = (f ≡ field_at s at) × Follows s (at + 3 + size_at s at) fs

pub follows : (k : ℕ) (s : List ℕ) (at : ℕ) (fs : List Field) → row_from k s at ≡ row fs → Follows s at fs
unfolding row_from
follows zero s at fs e = by (eqb at (length s)) refl e
  where
    by : (b : Bool) → eqb at (length s) ≡ b → cond b (row []) cut_short ≡ row fs → Follows s at fs
    by true q e = let z : [] ≡ fs = cc in subst (Follows s at) z (eqb-true at (length s) q)
    by false q e = let z : ◌≡◌ {A = ℕ} 0 1 = cc in absurd (omega arith)
follows (suc k) s at fs e = by (λ gs. follows k s (at + 3 + size_at s at) gs) (eqb at (length s)) refl e
  where
    Next : List Field → Type 0
    Next gs = Follows s (at + 3 + size_at s at) gs

    behind_it : (r : FieldRow) → ((gs : List Field) → r ≡ row gs → Next gs) → behind (field_at s at) r ≡ row fs → Follows s at fs
    behind_it (row gs) rest e = let z : (field_at s at ∷ gs) ≡ fs = cc in subst (Follows s at) z (refl, rest gs refl)
    behind_it cut_short rest e = let z : ◌≡◌ {A = ℕ} 0 1 = cc in absurd (omega arith)

    whole : ((gs : List Field) → row_from k s (at + 3 + size_at s at) ≡ row gs → Next gs) → (b : Bool)
        → cond b (behind (field_at s at) (row_from k s (at + 3 + size_at s at))) cut_short ≡ row fs → Follows s at fs
    whole rest true e = behind_it (row_from k s (at + 3 + size_at s at)) rest e
    whole rest false e = let z : ◌≡◌ {A = ℕ} 0 1 = cc in absurd (omega arith)

    by : ((gs : List Field) → row_from k s (at + 3 + size_at s at) ≡ row gs → Next gs) → (b : Bool) → eqb at (length s) ≡ b
        → cond b (row []) (field_then s at (row_from k s)) ≡ row fs → Follows s at fs
    by rest true q e = let z : [] ≡ fs = cc in subst (Follows s at) z (eqb-true at (length s) q)
    by rest false q e = whole rest (leb (at + 3) (length s) && leb (at + 3 + size_at s at) (length s)) e

-- ---- a whole row has two fields

abbrev one_if : Bool → ℕ
one_if b = cond b 1 0

one_of : (a b : Bool) → (a || b) ≡ true → (a ≡ true → b ≡ true → ⊥) → one_if a + one_if b ≡ 1
one_of true true e h = absurd (h refl refl)
one_of true false e h = refl
one_of false true e h = refl
one_of false false e h = absurd (false≢true e)

-- a known field counts once
known_once : (f : Field) → is_known f ≡ true → one_if (eqb f.tag 1) + one_if (eqb f.tag 2) ≡ 1
known_once f e =
    one_of (eqb f.tag 1) (eqb f.tag 2) (both (eqb f.tag 1 || eqb f.tag 2) (eqb f.size 24) e).0
    (λ p q. let x = eqb-true f.tag 1 p in let y = eqb-true f.tag 2 q in omega (arith, x, y))

known_size : (f : Field) → is_known f ≡ true → f.size ≡ 24
known_size f e = eqb-true f.size 24 (both (eqb f.tag 1 || eqb f.tag 2) (eqb f.size 24) e).1

known_head : (f : Field) (fs : List Field) → all_known (f ∷ fs) ≡ true → (is_known f ≡ true) × (all_known fs ≡ true)
known_head f fs e = both (is_known f) (all_known fs) e

whole_known : (fs : List Field) → is_whole fs ≡ true → all_known fs ≡ true
whole_known fs e = (both (all_known fs) (eqb (times_of 1 fs) 1 && eqb (times_of 2 fs) 1) e).0

whole_first : (fs : List Field) → is_whole fs ≡ true → times_of 1 fs ≡ 1
whole_first fs e =
    eqb-true (times_of 1 fs) 1 (both (eqb (times_of 1 fs) 1) (eqb (times_of 2 fs) 1) (both (all_known fs) (eqb (times_of 1 fs) 1 && eqb (times_of 2 fs) 1) e).1).0

whole_second : (fs : List Field) → is_whole fs ≡ true → times_of 2 fs ≡ 1
whole_second fs e =
    eqb-true (times_of 2 fs) 1 (both (eqb (times_of 1 fs) 1) (eqb (times_of 2 fs) 1) (both (all_known fs) (eqb (times_of 1 fs) 1 && eqb (times_of 2 fs) 1) e).1).1

pub record Two (a b : ℕ) (f g : Field) : Type 0 where
  pub tag_first : f.tag ≡ a
  pub tag_second : g.tag ≡ b
  pub size_first : f.size ≡ 24
  pub size_second : g.size ≡ 24

pub record Pair (fs : List Field) : Type 0 where
  pub first : Field
  pub second : Field
  pub are : fs ≡ (first ∷ second ∷ [])
  pub in_order : Two 1 2 first second ⊎ Two 2 1 first second

ordered : (f g : Field) → is_known f ≡ true → is_known g ≡ true → times_of 1 (f ∷ g ∷ []) ≡ 1 → times_of 2 (f ∷ g ∷ []) ≡ 1 → Two 1 2 f g ⊎ Two 2 1 f g
ordered f g kf kg n1 n2 = by (eqb f.tag 1) (eqb f.tag 2) (eqb g.tag 1) (eqb g.tag 2) refl refl refl refl n1 n2
  where
    sf : f.size ≡ 24
    sf = known_size f kf

    sg : g.size ≡ 24
    sg = known_size g kg

    by : (a b c d : Bool) → eqb f.tag 1 ≡ a → eqb f.tag 2 ≡ b → eqb g.tag 1 ≡ c → eqb g.tag 2 ≡ d
        → one_if a + (one_if c + 0) ≡ 1 → one_if b + (one_if d + 0) ≡ 1 → Two 1 2 f g ⊎ Two 2 1 f g
    by true b false true p q r t x y = inl (record { tag_first = eqb-true f.tag 1 p; tag_second = eqb-true g.tag 2 t; size_first = sf; size_second = sg })
    by false true true d p q r t x y = inr (record { tag_first = eqb-true f.tag 2 q; tag_second = eqb-true g.tag 1 r; size_first = sf; size_second = sg })
    by true true false false p q r t x y = let u = eqb-true f.tag 1 p in let w = eqb-true f.tag 2 q in absurd (omega (arith, u, w))
    by true false false false p q r t x y = absurd (omega (arith, y))
    by true b true d p q r t x y = absurd (omega (arith, x))
    by false b false d p q r t x y = absurd (omega (arith, x))
    by false false true true p q r t x y = let u = eqb-true g.tag 1 r in let w = eqb-true g.tag 2 t in absurd (omega (arith, u, w))
    by false false true false p q r t x y = absurd (omega (arith, y))

too_many : (a b c d e f x y : ℕ) → a + b ≡ 1 → c + d ≡ 1 → e + f ≡ 1 → a + (c + (e + x)) ≡ 1 → b + (d + (f + y)) ≡ 1 → 1 ≤ 0
too_many a b c d e f x y p q r u v = omega (arith, p, q, r, u, v)

pub pair : (fs : List Field) → is_whole fs ≡ true → Pair fs
pair [] e = absurd (false≢true e)
pair (f ∷ []) e =
    let x : one_if (eqb f.tag 1) + 0 ≡ 1 = whole_first (f ∷ []) e in
    let y : one_if (eqb f.tag 2) + 0 ≡ 1 = whole_second (f ∷ []) e in
    let z = known_once f (known_head f [] (whole_known (f ∷ []) e)).0 in
    absurd (omega (arith, x, y, z))
pair (f ∷ g ∷ []) e =
    let k = known_head f (g ∷ []) (whole_known (f ∷ g ∷ []) e) in
    record {
      first = f;
      second = g;
      are = refl;
      in_order = ordered f g k.0 (known_head g [] k.1).0 (whole_first (f ∷ g ∷ []) e) (whole_second (f ∷ g ∷ []) e);
    }
pair (f ∷ g ∷ h ∷ fs) e =
    let kf = known_head f (g ∷ h ∷ fs) (whole_known (f ∷ g ∷ h ∷ fs) e) in
    let kg = known_head g (h ∷ fs) kf.1 in
    let kh = known_head h fs kg.1 in
    let w =
    too_many (one_if (eqb f.tag 1)) (one_if (eqb f.tag 2)) (one_if (eqb g.tag 1)) (one_if (eqb g.tag 2)) (one_if (eqb h.tag 1)) (one_if (eqb h.tag 2)) (times_of 1 fs) (times_of 2 fs)
    (known_once f kf.0) (known_once g kg.0) (known_once h kh.0) (whole_first (f ∷ g ∷ h ∷ fs) e) (whole_second (f ∷ g ∷ h ∷ fs) e) in
    absurd (omega (arith, w))

-- ---- the two layouts

all_three : (x y z a b c : ℕ) → x ≡ a → y ≡ b → z ≡ c → (eqb x a && (eqb y b && eqb z c)) ≡ true
all_three x y z a b c p q r = rw (eq-eqb x a p, eq-eqb y b q, eq-eqb z c r) refl

low : (x y : ℕ) → x + 256 * y ≡ 24 → x ≡ 24
low x y e = omega (arith, e)

high : (x y : ℕ) → x + 256 * y ≡ 24 → y ≡ 0
high x y e = omega (arith, e)

starts : (s : List ℕ) (at t : ℕ) → get_or s at 0 ≡ t → size_at s at ≡ 24 → starts_field s at t ≡ true
starts s at t p q =
    all_three (get_or s at 0) (get_or s (at + 1) 0) (get_or s (at + 2) 0) t 24 0 p (low (get_or s (at + 1) 0) (get_or s (at + 2) 0) q) (high (get_or s (at + 1) 0) (get_or s (at + 2) 0) q)

module _ (s : List ℕ) (at t : ℕ) (e : starts_field s at t ≡ true) where
  tests : (eqb (get_or s at 0) t ≡ true) × ((eqb (get_or s (at + 1) 0) 24 && eqb (get_or s (at + 2) 0) 0) ≡ true)
  tests = both (eqb (get_or s at 0) t) (eqb (get_or s (at + 1) 0) 24 && eqb (get_or s (at + 2) 0) 0) e

  sizes : (eqb (get_or s (at + 1) 0) 24 ≡ true) × (eqb (get_or s (at + 2) 0) 0 ≡ true)
  sizes = both (eqb (get_or s (at + 1) 0) 24) (eqb (get_or s (at + 2) 0) 0) tests.1

  started_tag : get_or s at 0 ≡ t
  started_tag = eqb-true (get_or s at 0) t tests.0

  started_size : size_at s at ≡ 24
  started_size =
      let y = eqb-true (get_or s (at + 1) 0) 24 sizes.0 in
      let z = eqb-true (get_or s (at + 2) 0) 0 sizes.1 in
      omega (arith, y, z)

-- two fields that follow from the file's start on
laid : (s : List ℕ) (a b : ℕ) (f g : Field) → Follows s 0 (f ∷ g ∷ []) → Two a b f g → LaidOut s a b
laid s a b f g w t =
    record {
      bytes = sym w.1.1 ∙ ap (λ n. n + 3 + size_at s n) place ∙ ap (λ n. 30 + n) size_27;
      first = starts s 0 a (ap (λ (x : Field). x.tag) (sym w.0) ∙ t.tag_first) size_0;
      second = starts s 27 b (ap (λ n. get_or s n 0) (sym place) ∙ ap (λ (x : Field). x.tag) (sym w.1.0) ∙ t.tag_second) size_27;
    }
  where
    size_0 : size_at s 0 ≡ 24
    size_0 = ap (λ (x : Field). x.size) (sym w.0) ∙ t.size_first

    place : 0 + 3 + size_at s 0 ≡ 27
    place = ap (λ n. 3 + n) size_0

    size_27 : size_at s 27 ≡ 24
    size_27 = ap (λ n. size_at s n) (sym place) ∙ ap (λ (x : Field). x.size) (sym w.1.0) ∙ t.size_second

-- a whole row has one of the two layouts
pub whole_laid : (s : List ℕ) (fs : List Field) → row_from (length s) s 0 ≡ row fs → is_whole fs ≡ true → LaidOut s 1 2 ⊎ LaidOut s 2 1
whole_laid s fs e w = by (pair fs w)
  where
    by : Pair fs → LaidOut s 1 2 ⊎ LaidOut s 2 1
    by p = order p.in_order
      where
        two : Follows s 0 (p.first ∷ p.second ∷ [])
        two = subst (Follows s 0) p.are (follows (length s) s 0 fs e)

        order : Two 1 2 p.first p.second ⊎ Two 2 1 p.first p.second → LaidOut s 1 2 ⊎ LaidOut s 2 1
        order (inl t) = inl (laid s 1 2 p.first p.second two t)
        order (inr t) = inr (laid s 2 1 p.first p.second two t)

-- ---- and the other way round

at_end : (k : ℕ) (s : List ℕ) (at : ℕ) → at ≡ length s → row_from k s at ≡ row []
unfolding row_from
at_end zero s at e = simp (eq-eqb at (length s) e)
at_end (suc k) s at e = simp (eq-eqb at (length s) e)

one_more : (k : ℕ) (s : List ℕ) (at : ℕ) → at + 3 + size_at s at ≤ length s → row_from (suc k) s at ≡ behind (field_at s at) (row_from k s (at + 3 + size_at s at))
unfolding row_from
one_more k s at h =
    simp (ne_eqb at (length s) (λ e. omega (arith, e, h)), le-leb (at + 3) (length s) (omega (arith, h)), le-leb (at + 3 + size_at s at) (length s) h)

module _ (s : List ℕ) (a b : ℕ) (l : LaidOut s a b) where
  size_first : size_at s 0 ≡ 24
  size_first = started_size s 0 a l.first

  size_second : size_at s 27 ≡ 24
  size_second = started_size s 27 b l.second

  row_two : (k : ℕ) → row_from (suc (suc k)) s 0 ≡ row (field_at s 0 ∷ field_at s 27 ∷ [])
  row_two k =
      one_more (suc k) s 0 (omega (arith, size_first, l.bytes))
      ∙ ap (λ n. behind (field_at s 0) (row_from (suc k) s (3 + n))) size_first
      ∙ ap (behind (field_at s 0)) (one_more k s 27 (omega (arith, size_second, l.bytes)) ∙ ap (λ n. behind (field_at s 27) (row_from k s (30 + n))) size_second ∙ ap (behind (field_at s 27)) (at_end k s 54 (sym l.bytes)))

  pub row_laid : row_from (length s) s 0 ≡ row (field_at s 0 ∷ field_at s 27 ∷ [])
  row_laid = ap (λ n. row_from n s 0) l.bytes ∙ row_two 52

pub first_then_second : (s : List ℕ) → LaidOut s 1 2 → sizes_of s ≡ judged (sizes_in s 3 30)
unfolding sizes_of
first_then_second s l =
    ap (judged_row s) (row_laid s 1 2 l)
    ∙ simp (started_tag s 0 1 l.first, started_tag s 27 2 l.second, started_size s 0 1 l.first, started_size s 27 2 l.second)

pub second_then_first : (s : List ℕ) → LaidOut s 2 1 → sizes_of s ≡ judged (sizes_in s 30 3)
unfolding sizes_of
second_then_first s l =
    ap (judged_row s) (row_laid s 2 1 l)
    ∙ simp (started_tag s 0 2 l.first, started_tag s 27 1 l.second, started_size s 0 2 l.first, started_size s 27 1 l.second)

-- in no other layout
pub else_26 : (s : List ℕ) → (LaidOut s 1 2 → ⊥) → (LaidOut s 2 1 → ⊥) → sizes_of s ≡ refused 26
unfolding sizes_of
else_26 s no-1 no-2 = by (row_from (length s) s 0) refl
  where
    neither : LaidOut s 1 2 ⊎ LaidOut s 2 1 → ⊥
    neither (inl l) = no-1 l
    neither (inr l) = no-2 l

    judge : (fs : List Field) → row_from (length s) s 0 ≡ row fs → (b : Bool) → is_whole fs ≡ b → cond b (judged (sizes_in s (place_of 1 fs) (place_of 2 fs))) (refused 26) ≡ refused 26
    judge fs q true w = absurd (neither (whole_laid s fs q w))
    judge fs q false w = refl

    by : (r : FieldRow) → row_from (length s) s 0 ≡ r → judged_row s r ≡ refused 26
    by (row fs) q = judge fs q (is_whole fs) refl
    by cut_short q = refl

-- ---- the way through `parse`

pub not_54 : (s : List ℕ) → (length s ≡ 54 → ⊥) → refused 26 ≡ sizes_of s
not_54 s h = sym (else_26 s (λ l. h l.bytes) (λ l. h l.bytes))

-- the two layouts, as `parse` tests for them
pub parsed : (s : List ℕ) (y : Answer BodySizes)
    → y ≡ cond (eqb (length s) 54)
    (cond (starts_field s 0 1 && starts_field s 27 2) (judged (sizes_in s 3 30))
    (cond (starts_field s 0 2 && starts_field s 27 1) (judged (sizes_in s 30 3)) (refused 26)))
    (refused 26)
    → y ≡ sizes_of s
parsed s y = long (eqb (length s) 54) refl
  where
    first : Bool
    first = starts_field s 0 1 && starts_field s 27 2

    second : Bool
    second = starts_field s 0 2 && starts_field s 27 1

    none : first ≡ false → second ≡ false → refused 26 ≡ sizes_of s
    none p q =
        sym (else_26 s (λ l. false≢true (sym p ∙ rw (l.first, l.second) refl)) (λ l. false≢true (sym q ∙ rw (l.first, l.second) refl)))

    neither : length s ≡ 54 → first ≡ false → (t : Bool) → second ≡ t → y ≡ cond t (judged (sizes_in s 30 3)) (refused 26) → y ≡ sizes_of s
    neither n p true q e = let (a, b) = both (starts_field s 0 2) (starts_field s 27 1) q in e ∙ sym (second_then_first s (record { bytes = n; first = a; second = b }))
    neither n p false q e = e ∙ none p q

    laid_out : length s ≡ 54 → (t : Bool) → first ≡ t → y ≡ cond t (judged (sizes_in s 3 30)) (cond second (judged (sizes_in s 30 3)) (refused 26)) → y ≡ sizes_of s
    laid_out n true p e = let (a, b) = both (starts_field s 0 1) (starts_field s 27 2) p in e ∙ sym (first_then_second s (record { bytes = n; first = a; second = b }))
    laid_out n false p e = neither n p second refl e

    long : (t : Bool) → eqb (length s) 54 ≡ t → y ≡ cond t (cond first (judged (sizes_in s 3 30)) (cond second (judged (sizes_in s 30 3)) (refused 26))) (refused 26) → y ≡ sizes_of s
    long true n e = laid_out (eqb-true (length s) 54 n) first refl e
    long false n e = e ∙ not_54 s (λ h. false≢true (sym n ∙ eq-eqb (length s) 54 h))
