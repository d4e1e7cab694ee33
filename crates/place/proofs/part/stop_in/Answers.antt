-- `place::part::stop_in` meets its contract. Assumes nothing.
use mathlib.Core.Path.{◌≡◌, refl, sym, ap, ◌∙◌}
use native.Mathlib.Omega.{arith}
use Rattle.std.specs.Prelude.{ℕ, Result, Ok, Err}
use Rattle.format.specs.Refusal.{number_of}
use Rattle.format.specs.Step.{Step, refused}
use Rattle.format.specs.declared.refusal.Refusal.{Refusal}
use Rattle.sections.specs.Answers.{position_step}
use Rattle.place.specs.Stop.{stop}
use Rattle.place.proofs.Stops.{starts, goes_on, stops_here, ends}
use Rattle.place.proofs.part.stop_in.Goals as goal

-- a reader that gave no position was refused
no_position : (r : Result ℕ Refusal) {x : Step (Unit {0})} → position_step r ≡ x → ((v : ℕ) → r ≡ Ok v → ⊥) → (e : Refusal) × (x ≡ refused (number_of e))
no_position (Ok v) e h = absurd (h v refl)
no_position (Err n) e h = (n, sym e)

pub loop-index-init : goal.loop-index-init
loop-index-init c = starts _ _ _ _ c.span-span.ensures

pub returns-in_default : goal.returns-in_default
returns-in_default c =
    let (e, q) = no_position c.read_record.result c.read_record.ensures c.in_default.not-Ok in
    stops_here _ _ _ _ _ _ c.loop-index.invariant c.loop-index-test.true q

pub loop-index-preserved : goal.loop-index-preserved
loop-index-preserved c = goes_on _ _ _ _ _ _ c.loop-index.invariant c.loop-index-test.true (sym c.in-Ok.ensures)

pub returns : goal.returns
returns c =
    let l = c.loop-index in
    let e : c.span-span.result.count ≡ l.index = omega (arith, l.auto, c.loop-index-test.false) in
    ap (λ k. stop k l.byte) e ∙ ends _ _ _ _ _ _ l.invariant c.loop-index-test.false
