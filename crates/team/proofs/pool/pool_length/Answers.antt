-- `pool_length` meets its contract. The loop's invariant: the leaves counted, and those that the rows list together from here on, are as many
-- as the rows list together. Assumes nothing.
use borrow.Author.Rules.{rules}
use mathlib.Core.Path.{refl}
use Rattle.team.proofs.Pools.{count_ends, count_next}
use Rattle.team.proofs.pool.pool_length.Goals as goal

pub loop-leaf-preserved : goal.loop-leaf-preserved
loop-leaf-preserved c = let b = c.pool_byte-taken in
    count_next _ _ _ _ _ _ _ _ _ c.loop-leaf.invariant c.loop-leaf-test.true c.requires.2 c.requires.0 _ _ b.result.byte b.result.next b.auto.ats b.auto.groups b.ensures
    (search rules) _ _ c.kept_bits.ensures refl

pub returns : goal.returns
returns c = count_ends _ _ _ _ _ _ _ _ _ c.loop-leaf.invariant c.loop-leaf-test.false
