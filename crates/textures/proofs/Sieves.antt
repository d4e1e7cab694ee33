-- The sieve: the table has no stem that it may not have.
-- Assumes nothing.
use Prim.Native.Nat.{ℕ, ◌+◌, ◌*◌, ◌<◌, ◌≤◌}
use mathlib.Core.Path.{◌≡◌, refl, sym, ap, ◌∙◌}
use mathlib.Core.Bool.{Bool, true, false}
use mathlib.Core.List.{List, []}
use Rattle.std.specs.Prelude.{Option, Some, None}
use native.Mathlib.Omega.{arith}
use borrow.Author.Tests.{eqb-true, eqb-false, lt-ltb, le-ltb}
use lib.Dec.{eqb}
use lib.ListN.{length, get_or, set, length-set}
use lib.Seq.{get_or-set_same, get_or-set_other}
use Rattle.textures.specs.Table.{holds, seek, Table, Marked}
use Rattle.textures.specs.Sieve.{place_of, may_have, Sifted, Sieved, SameNode}
use Rattle.texture_list.specs.declared.kind.Key.{Key}
use Rattle.textures.specs.declared.table.Located.{Located}
use Rattle.textures.specs.declared.table.Located.TheVariants.{At}
use Rattle.textures.proofs.Tables.{true_false, found_node}
use Rattle.textures.proofs.Marks.{and_left, and_right, mark_miss, mark_hit}

module _ (sieve : List ℕ) (a b place : ℕ) (is : place ≡ place_of a b) where
  -- the answer where the sieve has no such place, and where it has it
  pub may_past : length sieve ≤ place → true ≡ may_have sieve a b
  unfolding may_have
  may_past h = rw (← is, le-ltb place (length sieve) h) refl

  pub sift_past : length sieve ≤ place → Sifted sieve a b sieve
  sift_past h = (sym (may_past h), λ x y e. e)

  pub sift_at : place < length sieve → Sifted sieve a b (set sieve place 1)
  unfolding may_have
  sift_at h = (put a b is, kept)
    where
      put : (x y : ℕ) → place ≡ place_of x y → may_have (set sieve place 1) x y ≡ true
      put x y e = rw (← e, length-set sieve place 1, lt-ltb place (length sieve) h, get_or-set_same sieve place 1 0 h) refl

      kept : (x y : ℕ) → may_have sieve x y ≡ true → may_have (set sieve place 1) x y ≡ true
      kept x y e = by (eqb (place_of x y) place) refl
        where
          by : (z : Bool) → eqb (place_of x y) place ≡ z → may_have (set sieve place 1) x y ≡ true
          by true f = put x y (sym (eqb-true (place_of x y) place f))
          by false f = rw (length-set sieve place 1, get_or-set_other sieve place (place_of x y) 1 0 (eqb-false (place_of x y) place f)) e

pub sieved_by_none : (t : List ℕ) (w : ℕ) → Sieved t w []
unfolding may_have
sieved_by_none t w v h k = rw (le-ltb (place_of (get_or t (4 * v) 0) (get_or t (4 * v + 1) 0)) 0 (omega arith)) refl

pub sieve_none : (k : Located) → ((v : ℕ) → k ≡ At v → ⊥) → SameNode None k
sieve_none k not-at = (λ v f. cc, λ v f. absurd (not-at v f))

pub not_sieved : (t : List ℕ) (w : ℕ) (sieve : List ℕ) (a b : ℕ) → Table t w → Sieved t w sieve → may_have sieve a b ≡ false → SameNode None (seek t a b 145 0 0)
unfolding holds
not_sieved t w sieve a b table sieved none = sieve_none _ not-at
  where
    not-at : (v : ℕ) → seek t a b 145 0 0 ≡ At v → ⊥
    not-at v e =
        let n = found_node t w table.below a b 145 0 0 v table.some (omega arith) e in
        let p : get_or t (4 * v) 0 ≡ a = eqb-true _ _ (and_left _ _ n.1.1) in
        let q : get_or t (4 * v + 1) 0 ≡ b = eqb-true _ _ (and_right (eqb (get_or t (4 * v) 0) a) _ n.1.1) in
        true_false (sym (sieved v n.0 n.1.0) ∙ (ap (λ (x : ℕ). may_have sieve x (get_or t (4 * v + 1) 0)) p ∙ (ap (λ (x : ℕ). may_have sieve a x) q ∙ none)))

pub sought_sifted : (key of : Key) → key ≡ of → (t : List ℕ) (l : Option ℕ) → SameNode l (seek t key.stem.start key.stem.end 145 0 0) → SameNode l (seek t of.stem.start of.stem.end 145 0 0)
sought_sifted key of is_key t l e = rw (← is_key) e

-- a node is marked by the search by the sieve
module _ (p : ℕ → Bool) (ka kb : ℕ → ℕ) (t : List ℕ) (w : ℕ) (table : Table t w) (marks : List ℕ) (j : ℕ) (marked : Marked p ka kb t w marks j) (l : Option ℕ)
    (is : SameNode l (seek t (ka j) (kb j) 145 0 0)) where
  pub sifted_none : ((v : ℕ) → l ≡ Some v → ⊥) → Marked p ka kb t w marks (j + 1)
  sifted_none none = mark_miss p ka kb t w table marks j marked (λ v q. none v (is.1 v q))

  pub sifted_at : (u : ℕ) → p j ≡ true → l ≡ Some u → w ≤ length marks → Marked p ka kb t w (set marks u 1) (j + 1)
  sifted_at u h e k = mark_hit p ka kb t w table marks j marked u h (is.0 u e) k

  pub sifted_inside : (u : ℕ) → l ≡ Some u → u < w
  sifted_inside u e = (found_node t w table.below (ka j) (kb j) 145 0 0 u table.some (omega arith) (is.0 u e)).1.0
