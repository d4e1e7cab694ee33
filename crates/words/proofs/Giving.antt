-- What a call leaves: laws for its ways out. Assumes nothing.
use Prim.Native.Nat.{ℕ, ◌≤◌}
use mathlib.Core.Path.{◌≡◌, refl, sym, ap, ◌∙◌}
use mathlib.Core.List.{List}
use borrow.Author.Tests.{le-ltb}
use lib.ListN.{length}
use Rattle.format.specs.Answer.{Answer, answer, refused, mapped}
use Rattle.format.specs.Listed.{Listed, listed}
use Rattle.words.specs.Words.{Written, written, put, give, given, told, number_words, beside, listed_in}

fits : (ws out : List ℕ) → length ws ≤ length out → give ws out ≡ written 0 (put ws out)
fits ws out h = simp (le-ltb (length out) (length ws) h)

-- where there is room for the words of every value, nothing is too short
pub told_given : {A : Type 0} (words : A → List ℕ) (a : Answer A) (out : List ℕ) → ((x : A) → length (words x) ≤ length out)
    → told (mapped words a) out ≡ given (mapped words a) out
told_given words (answer x) out room = fits (words x) out (room x)
told_given words (refused n) out room = refl

-- an answer x that stands for a: its refusal was told, or its value's words were given
module _ {R A : Type 0} (reading : R → Answer A) (words : A → List ℕ) where
  pub refuses : {a : Answer A} {out : List ℕ} {x y : R} {k n : ℕ} → reading x ≡ a → x ≡ y → reading y ≡ refused n → k ≡ n
      → written k out ≡ given (mapped words a) out
  refuses {out = out} e q n k = ap (λ j. written j out) k ∙ ap (λ b. given (mapped words b) out) (sym n ∙ sym (ap reading q) ∙ e)

  pub gives : (out : List ℕ) {a : Answer A} {ws : List ℕ} {x y : R} {v : A} {w : Written} → reading x ≡ a → x ≡ y → reading y ≡ answer v → ws ≡ words v
      → length (words v) ≤ length out → w ≡ give ws out → w ≡ given (mapped words a) out
  gives out {v = v} e q n k h g =
      g ∙ ap (λ l. give l out) k ∙ fits (words v) out h ∙ ap (λ b. given (mapped words b) out) (sym n ∙ sym (ap reading q) ∙ e)

-- the count of the entries listed is given beside the list
pub counts : (a : Answer ℕ) (l out : List ℕ) {w : Written} {x : Listed} → w ≡ given (mapped number_words a) out → listed a l ≡ x → beside l w ≡ listed_in x out
counts a l out g e = ap (beside l) g ∙ ap (λ x. listed_in x out) e
