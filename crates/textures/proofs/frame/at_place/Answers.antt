-- `textures::frame::at_place` meets its contract: letter by letter
-- Assumes nothing.
use Rattle.std.proofs.Common.{arith}
use Rattle.textures.specs.Private.{first_letter}
use Rattle.textures.proofs.Places.{at_start, at_found, at_further, at_end}
use Rattle.textures.proofs.frame.at_place.Goals as goal

pub loop-letter-init : goal.loop-letter-init
loop-letter-init c = let a = c.args in rw c.first_letter-lo.ensures.0 (at_start (first_letter a.group) a.s.now a.base a.stem.start a.stem.end a.count a.place)

pub returns-in-Some : goal.returns-in-Some
returns-in-Some c = let a = c.args in let l = c.loop-letter in at_found (first_letter a.group) a.s.now a.base a.stem.start a.stem.end _ _ _ _ (omega (arith, l.auto.letter, c.first_letter-lo.ensures.0)) l.invariant (omega arith) _ _ c.nth_frame-found.ensures c.in-Some.at c.in-Some.is

pub loop-letter-preserved : goal.loop-letter-preserved
loop-letter-preserved c = let a = c.args in let l = c.loop-letter in at_further (first_letter a.group) a.s.now a.base a.stem.start a.stem.end _ _ _ _ (omega (arith, l.auto.letter, c.first_letter-lo.ensures.0)) l.invariant (omega arith) _ _ c.nth_frame-found.ensures c.in_default.is

pub returns : goal.returns
returns c = let a = c.args in let l = c.loop-letter in at_end (first_letter a.group) a.s.now a.base a.stem.start a.stem.end _ _ _ _ (omega (arith, l.auto.letter, c.first_letter-lo.ensures.0)) l.invariant (omega arith)
