-- What `search` goes by in a function that is a chain of reads and tests: a read that gave a value and one that refused, and a test that held
-- and one that failed. A fact that a `?` brings is a lemma only where it is listed: `search (steps, c.in_ok-x.ensures) depth 10`.
-- Assumes nothing.
use mathlib.Core.Path.{◌≡◌, sym, ◌∙◌}
use mathlib.Core.Bool.{Bool, true, false, cond}
use borrow.Author.Tests.{lt-ltb, le-ltb, le-leb, lt-leb, eq-eqb, ne_eqb}
use lib.IntN.{ℤ}
use lib.Signed.{lt_z}
use mir.Syntax.{Width}
use mir.Val.{SFits, to_z, of_z}
use mir.Facts.{to_z-of_z}
use Rattle.std.specs.Prelude.{ℕ, Option, Result}
use Rattle.std.specs.Result.{IsErrAnd}
use Rattle.format.proofs.Answers.{handed_on}
use Rattle.format.specs.Step.{Step, ok, refused, and_then}
use Rattle.format.specs.Answers.{step_of}
use Rattle.format.specs.Refusal.{number_of}
use Rattle.format.specs.Code.{negated_contents}
use Rattle.format.specs.declared.refusal.Refusal.{Refusal}
use Rattle.format.specs.declared.contents.BspLeafContents.{BspLeafContents}

pub go : {A B : Type 0} (x : Step A) (k : A → ℕ → Step B) (v : A) (p : ℕ) (y : Step B) → x ≡ ok v p → y ≡ k v p → y ≡ and_then x k
go x k v p y e q = rw e q

pub no : {A B : Type 0} (x : Step A) (k : A → ℕ → Step B) (n : ℕ) → x ≡ refused n → refused n ≡ and_then x k
no x k n e = rw e

-- a step that gave a value, and one that refused, where the refusal is handed on by `?`
module _ {A B : Type 0} (k : A → ℕ → Step B) (x : Step A) where
  pub step_ok : (v : A) (p : ℕ) (y : Step B) → ok v p ≡ x → y ≡ k v p → y ≡ and_then x k
  step_ok v p y e q = rw (sym e) q

  pub step_no : (e : Refusal) (q : Result (B × ℕ) Refusal) → refused (number_of e) ≡ x → IsErrAnd q (λ d. d ≡ e) → step_of q ≡ and_then x k
  step_no e q i h = rw (handed_on h, sym i)

-- the same value at the same position
pub lands : {A : Type 0} (v w : A) (p q : ℕ) → v ≡ w → p ≡ q → ok v p ≡ ok w q
lands v w p q e h = rw (e, h)

module _ {A : Type 0} (a b y : A) where
  pub held : (t : Bool) → t ≡ true → y ≡ a → y ≡ cond t a b
  held t e q = rw e q

  pub failed : (t : Bool) → t ≡ false → y ≡ b → y ≡ cond t a b
  failed t e q = rw e q

-- the flag of a call that tests
pub told : (r t u : Bool) → r ≡ t → r ≡ u → t ≡ u
told r t u e q = sym e ∙ q

-- a test of a signed number that a local holds
pub sign : (w : Width) (z y : ℤ) (t : Bool) → SFits w z → lt_z (to_z w (of_z w z)) y ≡ t → lt_z z y ≡ t
sign w z y t f e = rw (to_z-of_z f) at e

-- the contents of a code that a local holds
pub coded : (w : Width) (z : ℤ) (r t : Option BspLeafContents) → SFits w z → r ≡ negated_contents w (to_z w (of_z w z)) → r ≡ t → negated_contents w z ≡ t
coded w z r t f e q = rw (to_z-of_z f) at (sym e ∙ q)

pub ruleset tests = (held, failed, told, sign, lt-ltb, le-ltb, le-leb, lt-leb, eq-eqb, ne_eqb)

pub ruleset values = (lands, to_z-of_z)

pub ruleset steps = (step_ok, step_no, lands, to_z-of_z)
