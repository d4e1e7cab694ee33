-- `asked` meets its contract: a list too short, a hull of no table, or the sections and the hull. Assumes nothing.
use native.Mathlib.Omega.{arith}
use Rattle.format.proofs.Answers.{handed_answer}
use Rattle.ffi_hull.specs.Layout.{asked}
use Rattle.ffi_hull.proofs.layout.asked.Goals as goal

pub returns-then-map-lt-MAP_WORDS : goal.returns-then-map-lt-MAP_WORDS
unfolding asked
returns-then-map-lt-MAP_WORDS c = grind arith

pub returns-in_err-h : goal.returns-in_err-h
unfolding asked
returns-in_err-h c = grind (arith, handed_answer)

pub returns : goal.returns
unfolding asked
returns c = grind arith
