-- `Trace::join` meets its contract: the tests that led to each `return` say which case of `join` holds.
-- Assumes nothing.
use mathlib.Core.Path.{◌≡◌, sym, refl, ◌∙◌}
use mathlib.Core.Bool.{Bool, true, false, not}
use Rattle.std.specs.Prelude.{ℕ, eqb}
use borrow.Author.Tests.{ne_eqb, eqb-true, eqb-false}
use denote.Enum.Bare.{sameb}
use native.Mathlib.Omega.{arith}
use Rattle.math.specs.Vector as Vec
use Rattle.format.specs.Answer.{answer}
use Rattle.format.specs.Contents as Contents
use Rattle.format.specs.contracts.contents.BspLeafContents.{the_type}
use Rattle.format.specs.declared.contents.BspLeafContents.{BspLeafContents}
use Rattle.format.specs.declared.contents.BspLeafContents.TheVariants.{Solid}
use Rattle.format.proofs.Same.{same_contents}
use Rattle.phys.specs.Trace.{join, trace, is_terminal}
use Rattle.phys.specs.declared.Trace.{Trace}
use Rattle.phys.proofs.Trace.join.Goals as goal

-- what a test by `==` or `!=` tells
told : (a b : BspLeafContents) {r x : Bool} → r ≡ sameb the_type a b → r ≡ x → Contents.equal a b ≡ x
told a b e t = sym (same_contents a b) ∙ sym e ∙ t

here : (b : Bool) {r : Bool} → r ≡ not b → r ≡ false → b ≡ true
here true e t = refl
here false e t = sym t ∙ e

apart_of : (m n k : ℕ) → eqb m n ≡ false → eqb m k ≡ true → eqb n k ≡ false
apart_of m n k s p = ne_eqb n k (λ e. eqb-false m n s (eqb-true m k p ∙ sym e))

module _ (t u : Trace) (k : is_terminal t ≡ false) (e : Vec.same t.end.point u.start.point ≡ true) (s : Contents.equal t.contents u.contents ≡ false) where
  -- two media are not both solid
  not_both : (a b : BspLeafContents) → Contents.equal a b ≡ false → Contents.equal a Solid ≡ true → Contents.equal b Solid ≡ false
  unfolding Contents.equal
  not_both a b s p = apart_of (Contents.code_of a) (Contents.code_of b) 2 s p

  out_of_solid : Contents.equal t.contents Solid ≡ true → answer (trace t.start u.end u.contents true) ≡ join t u
  unfolding join
  out_of_solid p = simp (k, e, s, p, not_both t.contents u.contents s p)

  stopped : Contents.equal t.contents Solid ≡ false → answer t ≡ join t u
  unfolding join
  stopped p = simp (k, e, s, p)

pub returns-then-eq : goal.returns-then-eq
unfolding join
returns-then-eq c = grind (arith, same_contents)

pub returns-then-eq-2 : goal.returns-then-eq-2
returns-then-eq-2 c = out_of_solid _ _ (sym c.is_terminal.ensures ∙ c.if-is_terminal.false) (here _ c.ne.ensures c.if-ne.false) (told _ _ c.eq.ensures c.if-eq.false)
    (told _ _ c.eq-2.ensures c.if-eq-2.true)

pub returns : goal.returns
returns c = stopped _ _ (sym c.is_terminal.ensures ∙ c.if-is_terminal.false) (here _ c.ne.ensures c.if-ne.false) (told _ _ c.eq.ensures c.if-eq.false)
    (told _ _ c.eq-2.ensures c.if-eq-2.false)
