-- A group that is divided again and again: the part with fewer points is settled by itself, and the other goes on.
use Prim.Native.Nat.{ℕ, zero, suc, ◌+◌, ◌-◌, ◌<◌, ◌≤◌}
use native.Mathlib.Omega.{arith}
use mathlib.Core.Bool.{Bool, true, false, cond}
use mathlib.Core.List.{List, [], ◌∷◌, ◌++◌}
use mathlib.Core.Path.{◌≡◌, refl, sym, ◌∙◌, ap, subst}
use borrow.Rule.Slice.PartMut.{post_of, put_mid, mid_len, same_len_mid, take_put, drop_put}
use lib.Dec.{leb}
use lib.Ieee.{Float}
use lib.ListN.{length, take, drop}
use lib.Seq.{take_all, take-nil, take-take, take_at, drop_at, drop-drop, length-take-le}
use Rattle.walk.specs.Table.{Child}
use Rattle.nodes.specs.Tables.{End}
use Rattle.nodes.proofs.Entering.{child_of_word}
use Rattle.nodes.specs.Fast.{onto_child, onto_word, child_of, word_on}
use Rattle.nodes.specs.declared.table.Tables.{Tables}
use Rattle.nodes.specs.declared.read.Words.{Words as WordsT}
use Rattle.points.specs.Going.{part, parts_of, reads_of, settled_by, Settles, Divides}
use Rattle.nodes.specs.declared.read.Onto.{Onto}
use Rattle.points.specs.declared.group.Parts.{Parts}
use Rattle.points.proofs.Downward.{few_reads}

-- ---- parts of a list

part_as : (c a : ℕ) (l : List ℕ) → c ≤ a → part c a l ≡ drop c (take a l)
part_as zero a l h = ap (λ (n : ℕ). take n l) {x = a - 0} {y = a} (omega arith)
part_as (suc c) zero l h = absurd (omega arith)
part_as (suc c) (suc a) [] h = take-nil (suc a - suc c)
part_as (suc c) (suc a) (x ∷ l) h =
    ap (λ (n : ℕ). take n (drop c l)) {x = suc a - suc c} {y = a - c} (omega arith) ∙ part_as c a l (omega arith)

pub part_all : (l : List ℕ) → part 0 (length l) l ≡ l
part_all l = take_all (length l - 0) l (omega arith)

-- a part is lent and comes back as x
module _ (l x : List ℕ) (a b : ℕ) (h : a ≤ b) (g : b ≤ length l) where
  module _ (long : length x ≡ b - a) where
    pub put_length : length (put_mid a (b - a) l x) ≡ length l
    put_length = same_len_mid a (b - a) l x (long ∙ sym (mid_len a b l g))

    pub put_here : part a b (put_mid a (b - a) l x) ≡ x
    put_here =
        ap (take (b - a)) (drop_at (take a l) (x ++ post_of a (b - a) l) a (length-take-le a l (omega arith))) ∙ take_at x (post_of a (b - a) l) (b - a) long

    pub put_after : (d : ℕ) → part b d (put_mid a (b - a) l x) ≡ part b d l
    put_after d = ap (take (d - b)) (drop_put a b l x h g long)

    pub put_before : (c : ℕ) → c ≤ a → part c a (put_mid a (b - a) l x) ≡ part c a l
    put_before c e =
        part_as c a (put_mid a (b - a) l x) e ∙ ap (drop c) (take_put a (b - a) l x (omega arith)) ∙ sym (part_as c a l e)

-- the two parts of a part
module _ (l : List ℕ) (lo hi f : ℕ) (h : lo + f ≤ hi) where
  pub first_part : part lo (lo + f) l ≡ take f (part lo hi l)
  first_part =
      ap (λ (n : ℕ). take n (drop lo l)) {x = lo + f - lo} {y = f} (omega arith) ∙ sym (take-take f (hi - lo) (drop lo l) (omega arith))

  pub second_part : part (lo + f) hi l ≡ drop f (part lo hi l)
  second_part =
      sym
      (sym (part_as f (hi - lo) (drop lo l) (omega arith))
      ∙ ap (λ (n : ℕ). take n (drop f (drop lo l))) {x = hi - lo - f} {y = hi - (lo + f)} (omega arith) ∙ ap (take (hi - (lo + f))) (drop-drop f lo l))

-- ---- the loop

module _ (s : List ℕ) (t : Tables) (cs : List Float) where
  abbrev child_at : Onto → Child End
  child_at c = onto_child t.table c

  -- so far n reads; what is left to do is the part from lo to hi, which stands before c with k nodes more to enter
  pub record Doing (k₀ : ℕ) (c₀ : Onto) (ids₀ aside₀ out₀ : List ℕ) (ids aside out : List ℕ) (c : Onto) (k n lo hi : ℕ) : Type 0 where
    pub some : lo < hi
    pub inside : hi ≤ length ids
    pub as_long : length ids ≡ length ids₀
    pub as_wide : length aside ≡ length aside₀
    pub out_long : length out ≡ length out₀
    pub counted : reads_of s t cs k₀ (child_at c₀) ids₀ ≡ n + reads_of s t cs k (child_at c) (part lo hi ids)
    pub bytes : settled_by s t cs k₀ (child_at c₀) ids₀ out₀ ≡ settled_by s t cs k (child_at c) (part lo hi ids) out

  pub doing_none : {k : ℕ} {c : Onto} {ids aside out : List ℕ} → 0 < length ids → Doing k c ids aside out ids aside out c k 0 0 (length ids)
  doing_none {ids = ids} h =
      record {
        some = h;
        inside = omega arith;
        as_long = refl;
        as_wide = refl;
        out_long = refl;
        counted = rw (part_all ids) (omega arith);
        bytes = rw (part_all ids);
      }

  module _ {k₀ : ℕ} {c₀ : Onto} {ids₀ aside₀ out₀ ids aside out : List ℕ} {c : Onto} {k n lo hi : ℕ} (g : Doing k₀ c₀ ids₀ aside₀ out₀ ids aside out c k n lo hi) where
    lent_long : length (part lo hi ids) ≡ hi - lo
    lent_long = mid_len lo hi ids g.inside

    pub few_so_far : k₀ < 4294967296 → length ids₀ ≤ 1024 → n ≤ 4398046511104
    few_so_far a b = omega (arith, g.counted, few_reads s t cs k₀ (child_at c₀) ids₀ a b)

    pub few_at_end : {m : ℕ} {out' : List ℕ} → Settles s t cs k (child_at c) (part lo hi ids) out m out' → k₀ < 4294967296 → length ids₀ ≤ 1024 → n + m ≤ 4398046511104
    few_at_end z a b = omega (arith, g.counted, z.counted, few_reads s t cs k₀ (child_at c₀) ids₀ a b)

    -- the group is divided; l is its part of the list afterwards
    module _ {w : WordsT} {f j m : ℕ} {l out₁ : List ℕ} (d : Divides s t cs k (child_at c) (part lo hi ids) out w f j m l out₁) where
      long : length l ≡ hi - lo
      long = d.as_long ∙ lent_long

      abbrev ids₁ : List ℕ
      ids₁ = put_mid lo (hi - lo) ids l

      is_inside : lo + f ≤ hi
      is_inside = omega (arith, long, d.not_all)

      pub all_long : length ids₁ ≡ length ids
      all_long = put_length ids l lo hi (omega (arith, g.some)) g.inside long

      here : part lo hi ids₁ ≡ l
      here = put_here ids l lo hi (omega (arith, g.some)) g.inside long

      front_part : part lo (lo + f) ids₁ ≡ take f l
      front_part = first_part ids₁ lo hi f is_inside ∙ ap (take f) here

      back_part : part (lo + f) hi ids₁ ≡ drop f l
      back_part = second_part ids₁ lo hi f is_inside ∙ ap (drop f) here

      -- a part within the list, with at least one point, that leaves at least one to the other
      pub record Less (p : Parts) : Type 0 where
        pub ordered : p.from < p.to
        pub within : p.to ≤ length ids₁
        pub smaller : p.to - p.from < hi - lo
        pub rest : p.lo < p.hi
        pub rest_less : p.hi - p.lo < hi - lo

      pub less : Less (parts_of w lo f hi)
      unfolding parts_of
      less = go (leb f (hi - (lo + f)))
        where
          go : (b : Bool) → Less (cond b (record { fewer = onto_word (word_on w true); from = lo; to = lo + f; more = onto_word (word_on w false); lo = lo + f; hi = hi }) (record { fewer = onto_word (word_on w false); from = lo + f; to = hi; more = onto_word (word_on w true); lo = lo; hi = lo + f }))
          go true =
              record {
                ordered = omega (arith, d.some);
                within = omega (arith, is_inside, all_long, g.inside);
                smaller = omega (arith, long, d.not_all);
                rest = omega (arith, long, d.not_all);
                rest_less = omega (arith, d.some, long, d.not_all);
              }
          go false =
              record {
                ordered = omega (arith, long, d.not_all);
                within = omega (arith, all_long, g.inside);
                smaller = omega (arith, d.some, long, d.not_all);
                rest = omega (arith, d.some);
                rest_less = omega (arith, long, d.not_all);
              }

      module _ {p : Parts} (is-p : p ≡ parts_of w lo f hi) where
        pub less_of : Less p
        less_of = subst Less (sym is-p) less

        pub part_long : length (part p.from p.to ids₁) ≡ p.to - p.from
        part_long = mid_len p.from p.to ids₁ less_of.within

        pub part_some : 0 < length (part p.from p.to ids₁)
        part_some = omega (arith, part_long, less_of.ordered)

        pub part_less : length (part p.from p.to ids₁) < length ids₀
        part_less = omega (arith, part_long, less_of.smaller, g.inside, g.as_long)

      -- the part with fewer points is settled, and comes back as x
      module _ (aside' out₂ x : List ℕ) (a : ℕ) (wide : length aside' ≡ length aside₀) (out-same : length out₂ ≡ length out₀) where
        abbrev Next : Parts → Type 0
        Next p =
            length x ≡ p.to - p.from → Settles s t cs j (child_at p.fewer) (part p.from p.to ids₁) out₁ a out₂
            → Doing k₀ c₀ ids₀ aside₀ out₀ (put_mid p.from (p.to - p.from) ids₁ x) aside' out₂ p.more j (n + m + a) p.lo p.hi

        front_child : child_at (onto_word (word_on w true)) ≡ child_of t.table (word_on w true)
        front_child = child_of_word t.table (word_on w true)

        back_child : child_at (onto_word (word_on w false)) ≡ child_of t.table (word_on w false)
        back_child = child_of_word t.table (word_on w false)

        front_first : Next (record { fewer = onto_word (word_on w true); from = lo; to = lo + f; more = onto_word (word_on w false); lo = lo + f; hi = hi })
        front_first e z =
            let inner : lo + f ≤ length ids₁ = omega (arith, is_inside, all_long, g.inside) in
            let is : part (lo + f) hi (put_mid lo (lo + f - lo) ids₁ x) ≡ drop f l = put_after ids₁ x lo (lo + f) (omega arith) inner e hi ∙ back_part in
            record {
              some = omega (arith, long, d.not_all);
              inside = omega (arith, put_length ids₁ x lo (lo + f) (omega arith) inner e, all_long, g.inside);
              as_long = put_length ids₁ x lo (lo + f) (omega arith) inner e ∙ all_long ∙ g.as_long;
              as_wide = wide;
              out_long = out-same;
              counted = rw (is, back_child) (omega (arith, g.counted, d.counted, z.counted ∙ ap (reads_of s t cs j (child_at (onto_word (word_on w true)))) front_part ∙ ap (λ (y : Child End). reads_of s t cs j y (take f l)) front_child));
              bytes =
                  rw (is, back_child)
                  (g.bytes ∙ d.bytes
                  ∙ ap (settled_by s t cs j (child_of t.table (word_on w false)) (drop f l)) (sym (z.bytes ∙ ap (λ (y : List ℕ). settled_by s t cs j (child_at (onto_word (word_on w true))) y out₁) front_part ∙ ap (λ (y : Child End). settled_by s t cs j y (take f l) out₁) front_child ∙ ap (settled_by s t cs j (child_of t.table (word_on w true)) (take f l)) d.kept)));
            }

        back_first : Next (record { fewer = onto_word (word_on w false); from = lo + f; to = hi; more = onto_word (word_on w true); lo = lo; hi = lo + f })
        back_first e z =
            let inner : hi ≤ length ids₁ = omega (arith, all_long, g.inside) in
            let is : part lo (lo + f) (put_mid (lo + f) (hi - (lo + f)) ids₁ x) ≡ take f l = put_before ids₁ x (lo + f) hi is_inside inner e lo (omega arith) ∙ front_part in
            record {
              some = omega (arith, d.some);
              inside = omega (arith, put_length ids₁ x (lo + f) hi is_inside inner e, inner, is_inside);
              as_long = put_length ids₁ x (lo + f) hi is_inside inner e ∙ all_long ∙ g.as_long;
              as_wide = wide;
              out_long = out-same;
              counted = rw (is, front_child) (omega (arith, g.counted, d.counted, z.counted ∙ ap (reads_of s t cs j (child_at (onto_word (word_on w false)))) back_part ∙ ap (λ (y : Child End). reads_of s t cs j y (drop f l)) back_child));
              bytes =
                  rw (is, front_child)
                  (g.bytes ∙ d.other
                  ∙ ap (settled_by s t cs j (child_of t.table (word_on w true)) (take f l)) (sym (z.bytes ∙ ap (λ (y : List ℕ). settled_by s t cs j (child_at (onto_word (word_on w false))) y out₁) back_part ∙ ap (λ (y : Child End). settled_by s t cs j y (drop f l) out₁) back_child ∙ ap (settled_by s t cs j (child_of t.table (word_on w false)) (drop f l)) d.kept)));
            }

        pub doing_on : (p : Parts) → p ≡ parts_of w lo f hi → Next p
        unfolding parts_of
        doing_on p e = subst Next (sym e) (go (leb f (hi - (lo + f))))
          where
            go : (b : Bool) → Next (cond b (record { fewer = onto_word (word_on w true); from = lo; to = lo + f; more = onto_word (word_on w false); lo = lo + f; hi = hi }) (record { fewer = onto_word (word_on w false); from = lo + f; to = hi; more = onto_word (word_on w true); lo = lo; hi = lo + f }))
            go true = front_first
            go false = back_first
