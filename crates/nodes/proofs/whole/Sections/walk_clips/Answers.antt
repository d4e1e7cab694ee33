-- `walk_clips` meets its contract. The loop's invariant: the walk from the root on is the walk from the present node, which may enter as many
-- nodes as are left.
-- Assumes nothing.
use Rattle.std.proofs.Common.{Ok, false, refl, arith}
use Rattle.nodes.specs.Fast.{point_of}
use Rattle.nodes.proofs.Quicks.{from_root, no_root, spent, of_some, on_to, stops}
use Rattle.nodes.proofs.whole.Sections.walk_clips.Goals as goal

pub returns-then-count-root : goal.returns-then-count-root
returns-then-count-root c = let a = c.args in record { said = no_root a.self.now.nodes.now a.self.now.planes.now false (point_of a.point.now) a.root (omega (arith, c.if-count-root.true)); bounded = omega arith }

pub returns-then-count-word : goal.returns-then-count-word
returns-then-count-word c = let a = c.args in record { said = stops a.self.now.nodes.now a.self.now.planes.now false (point_of a.point.now) (from_root a.root (point_of a.point.now)) c.loop-visits.node c.loop-visits.visits c.loop-visits.invariant.2 c.loop-visits.invariant.0 (omega (arith)) (Ok (c.in-Some.words, c.in-Some.plane)) (of_some _ _ _ c.in-Some.is c.clip_found.ensures.found) _ _ refl _ c.word_along-word.ensures (omega (arith, c.requires)) (omega (arith, c.if-count-word.true)) _ c.stopped.ensures.said; bounded = c.stopped.ensures.bounded }

pub loop-visits-preserved : goal.loop-visits-preserved
loop-visits-preserved c = let a = c.args in (omega (arith, c.if-count-word.false), omega (arith), on_to a.self.now.nodes.now a.self.now.planes.now false (point_of a.point.now) (from_root a.root (point_of a.point.now)) c.loop-visits.node c.loop-visits.visits c.loop-visits.invariant.2 c.loop-visits.invariant.0 (omega (arith)) (Ok (c.in-Some.words, c.in-Some.plane)) (of_some _ _ _ c.in-Some.is c.clip_found.ensures.found) _ _ refl _ c.word_along-word.ensures (omega (arith, c.if-count-word.false, c.requires)))

pub returns : goal.returns
returns c = let a = c.args in record { said = spent a.self.now.nodes.now a.self.now.planes.now false (point_of a.point.now) (from_root a.root (point_of a.point.now)) c.loop-visits.node c.loop-visits.visits c.loop-visits.invariant.2 c.loop-visits.invariant.0 (omega (arith)); bounded = omega arith }

pub word_along-word-requires : goal.word_along-word-requires
word_along-word-requires c = of_some _ _ _ c.in-Some.is c.clip_found.ensures.plain
