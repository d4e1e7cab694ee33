-- `put_pool` meets its contract. The loop's invariant: the leaves written, and those that the rows list together from here on, are those that
-- the rows list together. Assumes nothing.
use mathlib.Core.Path.{◌∙◌}
use native.Mathlib.Omega.{arith}
use Rattle.vis.proofs.Placed.{at_front, placed}
use Rattle.team.proofs.Pools.{put_ends, put_room, put_next}
use Rattle.team.proofs.pool.put_pool.Goals as goal

pub loop-leaf-preserved : goal.loop-leaf-preserved
loop-leaf-preserved c = let l = c.loop-leaf in
    let p = l.invariant.1 in
    let b = c.pool_byte-taken in
    let w = c.put_leaves-count in
    let room = put_room _ _ _ _ _ _ _ _ _ _ p c.loop-leaf-test.true c.requires.2 c.requires.0 _ _ b.result.byte b.result.next b.auto.ats b.auto.groups b.ensures _
    c.kept_bits-kept.ensures in
    let f = at_front l.list w.new.list l.count w.result l.leaf c.kept_bits-kept.result _ w.ensures.0 w.ensures.1 in
    let q = placed l.list w.new.list l.count w.result l.leaf c.kept_bits-kept.result room (omega (arith, p.walking.small, p.walking.first)) w.auto.list (w.ensures.0, f) in (
      q.0 ∙ l.invariant.0,
      put_next _ _ _ _ _ _ _ _ _ _ p c.loop-leaf-test.true c.requires.2 c.requires.0 _ _ b.result.byte b.result.next b.auto.ats b.auto.groups b.ensures _ _ _
          c.kept_bits-kept.ensures q.0 q.1 q.2,
    )

pub returns : goal.returns
returns c = put_ends _ _ _ _ _ _ _ _ _ _ c.loop-leaf.invariant.1 c.loop-leaf-test.false
