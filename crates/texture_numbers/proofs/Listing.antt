-- The ways through `texture_numbers`: refused as the list of first textures is, and else as long.
-- Assumes nothing.
use Prim.Native.Nat.{ℕ, ◌≤◌}
use mathlib.Core.Path.{◌≡◌, refl, sym, ap, ◌∙◌, subst}
use mathlib.Core.Bool.{Bool, true, false}
use mathlib.Core.List.{List, ◌++◌}
use native.Mathlib.Omega.{arith}
use borrow.Author.Tests.{ltb-false}
use lib.Dec.{ltb}
use lib.ListN.{length, take, drop}
use lib.Seq.{take-append_seam, drop-append_seam}
use Rattle.format.specs.Answer.{Answer, answer, refused}
use Rattle.format.specs.Listed.{Listed, listed, into}
use Rattle.format.specs.declared.section.BspData.{BspData}
use Rattle.textures.specs.Access.{is_sound, names_in}
use Rattle.textures.specs.Count.{values_below}
use Rattle.textures.specs.Group.{numbered_by}
use Rattle.textures.specs.Private.{earliest_by, earliest_textures}
use Rattle.textures.proofs.Accesses.{few_textures}
use Rattle.textures.proofs.Leads.{each_length}
use Rattle.texture_numbers.specs.Numbers.{texture_numbers}
use Rattle.texture_numbers.specs.Renumber.{number_in, Led}
use Rattle.texture_numbers.proofs.Names.{led, numbers_are}

module _ (s : List ℕ) (m : BspData) (lent : List ℕ) where
  abbrev n : ℕ
  n = m.texture_count

  abbrev firsts : List ℕ
  firsts = values_below (earliest_by (names_in s m) n) n

  abbrev numbers : List ℕ
  numbers = values_below (numbered_by (names_in s m) n) n

  -- the ways that the two calls leave a lent list
  data Way : Type 0 where
    no : (k : ℕ) → into (earliest_textures s m) lent ≡ listed (refused k) lent → into (texture_numbers s m) lent ≡ listed (refused k) lent → Way
    yes : n ≤ 2097152 → n ≤ length lent → into (earliest_textures s m) lent ≡ listed (answer n) (firsts ++ drop n lent)
        → into (texture_numbers s m) lent ≡ listed (answer n) (numbers ++ drop n lent) → Way

  way : Way
  unfolding earliest_textures texture_numbers
  way = by (is_sound s m) (ltb (length lent) n) refl refl
    where
      by : (x y : Bool) → is_sound s m ≡ x → ltb (length lent) n ≡ y → Way
      by false y e f = no 23 (rw e refl) (rw e refl)
      by true true e f = no 22 (rw (e, each_length (earliest_by (names_in s m) n) n, f) refl) (rw (e, each_length (numbered_by (names_in s m) n) n, f) refl)
      by true false e f =
          yes (few_textures s m.textures.offset n true (sym e) refl) (ltb-false (length lent) n f)
          (rw (e, each_length (earliest_by (names_in s m) n) n, f) refl)
          (rw (e, each_length (numbered_by (names_in s m) n) n, f) refl)

  pub also_refused : (k : ℕ) (l : List ℕ) → listed (refused k) l ≡ into (earliest_textures s m) lent → listed (refused k) l ≡ into (texture_numbers s m) lent
  also_refused k l e = by way
    where
      by : Way → listed (refused k) l ≡ into (texture_numbers s m) lent
      by (no i f g) = e ∙ (f ∙ sym g)
      by (yes h i f g) = let q : ◌≡◌ {A = Answer ℕ} (refused k) (answer n) = ap (λ (x : Listed). x.answered) (e ∙ f) in let z : ◌≡◌ {A = ℕ} 0 1 = cc in absurd (omega arith)

  -- what is known where first textures were listed
  module _ (c : ℕ) (l : List ℕ) (e : listed (answer c) l ≡ into (earliest_textures s m) lent) where
    pub record Found : Type 0 where
      pub few : n ≤ 2097152
      pub room : n ≤ length lent
      pub is : c ≡ n
      pub list : l ≡ firsts ++ drop n lent
      pub then : into (texture_numbers s m) lent ≡ listed (answer n) (numbers ++ drop n lent)

    pub found : Found
    found = by way
      where
        by : Way → Found
        by (no k f g) = let q : ◌≡◌ {A = Answer ℕ} (answer c) (refused k) = ap (λ (x : Listed). x.answered) (e ∙ f) in let z : ◌≡◌ {A = ℕ} 0 1 = cc in absurd (omega arith)
        by (yes h i f g) =
            let q : ◌≡◌ {A = Answer ℕ} (answer c) (answer n) = ap (λ (x : Listed). x.answered) (e ∙ f) in
            record { few = h; room = i; is = cc; list = ap (λ (x : Listed). x.list) (e ∙ f); then = g }

    at_seam : c ≡ length firsts
    at_seam = found.is ∙ sym (each_length (earliest_by (names_in s m) n) n)

    front : take c l ≡ firsts
    front = rw (found.list, at_seam) (take-append_seam firsts (drop n lent))

    rest : drop c l ≡ drop n lent
    rest = rw (found.list, at_seam) (drop-append_seam firsts (drop n lent))

    pub long : length l ≡ length lent → c ≤ length l
    long h = omega (arith, found.is, found.room, h)

    pub few_found : length (take c l) ≤ 2097152
    few_found = omega (arith, ap length front, each_length (earliest_by (names_in s m) n) n, found.few)

    pub led_found : Led (take c l)
    led_found = subst (λ (x : List ℕ). Led x) (sym front) (led (names_in s m) n found.few)

    pub numbered : (xs : List ℕ) → xs ≡ values_below (number_in (take c l)) (length (take c l)) → listed (answer c) (xs ++ drop c l) ≡ into (texture_numbers s m) lent
    numbered xs q =
        let g : xs ≡ numbers = numbers_are (names_in s m) n found.few xs (q ∙ ap (λ (x : List ℕ). values_below (number_in x) (length x)) front) in
        ap (λ (y : List ℕ). listed (answer c) (xs ++ y)) rest
        ∙ (ap (λ (x : List ℕ). listed (answer c) (x ++ drop n lent)) g ∙ (ap (λ (k : ℕ). listed (answer k) (numbers ++ drop n lent)) found.is ∙ sym found.then))
