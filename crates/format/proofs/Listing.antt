-- What is left in a lent list, by what is known of the entries: one law for each way out of a call that lists. Assumes nothing.
use Prim.Native.Nat.{ℕ, ◌<◌, ◌≤◌}
use mathlib.Core.Path.{◌≡◌, sym, ap, ◌∙◌}
use mathlib.Core.List.{List, [], ◌++◌}
use native.Mathlib.Omega.{arith}
use borrow.Author.Tests.{lt-ltb, le-ltb}
use lib.ListN.{length, drop}
use Rattle.format.specs.Answer.{Answer, answer, refused, mapped}
use Rattle.format.specs.Listed.{listed, into}

module _ (lent : List ℕ) where
  pub into_none : listed (answer 0) lent ≡ into (answer []) lent
  into_none = rw (le-ltb (length lent) 0 (omega arith))

  pub into_refused : (a : Answer (List ℕ)) (k : ℕ) → refused k ≡ mapped length a → listed (refused k) lent ≡ into a lent
  into_refused (answer xs) k e = let z : ◌≡◌ {A = ℕ} 0 1 = cc in absurd (omega arith)
  into_refused (refused n) k e = let z : k ≡ n = cc in rw z

  pub into_short : (a : Answer (List ℕ)) (n : ℕ) → answer n ≡ mapped length a → length lent < n → listed (refused 22) lent ≡ into a lent
  into_short (answer xs) n e h = let z : n ≡ length xs = cc in rw (lt-ltb (length lent) (length xs) (omega arith))
  into_short (refused k) n e h = let z : ◌≡◌ {A = ℕ} 0 1 = cc in absurd (omega arith)

  pub into_list : (a : Answer (List ℕ)) (n : ℕ) (xs : List ℕ) → answer xs ≡ a → answer n ≡ mapped length a → n ≤ length lent
      → listed (answer n) (xs ++ drop n lent) ≡ into a lent
  into_list a n xs e q h =
      let m : ◌≡◌ {A = Answer ℕ} (answer n) (answer (length xs)) = q ∙ ap (mapped length) (sym e) in
      let z : n ≡ length xs = cc in
      rw (← e, z, le-ltb (length lent) (length xs) (omega arith))
