-- `put_last` meets its contract: as long as a bit is left there is room. Assumes nothing.
use Rattle.std.specs.Prelude.{◌≡◌, suc, ◌+◌, ◌-◌, ◌%◌, ◌^◌, ◌<◌}
use Rattle.std.proofs.Common.{arith}
use lib.Arith.{lt-one}
use Rattle.vis.proofs.SetBits.{room_left, no_bits, put_next, kept_next, put_all}
use Rattle.vis.proofs.row.put_last.Goals as goal

pub loop-shift-preserved : goal.loop-shift-preserved
loop-shift-preserved c = let a = c.args in
    let l = c.loop-shift in
    let e : 8 - l.shift ≡ suc (8 - (l.shift + 1)) = omega arith in
    let f : a.first + (l.shift + 1) ≡ a.first + l.shift + 1 = omega arith in
    (kept_next l.at (l.rest % 2) (a.first + l.shift) a.list.now l.list l.invariant.0, rw f (put_next _ _ _ _ _ _ (rw e at l.invariant.1) (room_left _ _ _ _ _ _ l.invariant.1 c.if-rest-eq0.false)))

pub returns-then-rest-eq0 : goal.returns-then-rest-eq0
returns-then-rest-eq0 c =
    let q = put_all _ _ _ _ _ (omega (arith, c.requires.0)) (no_bits _ _ _ _ _ _ c.loop-shift.invariant.1 c.if-rest-eq0.true) in
    (q.0, q.1, c.loop-shift.invariant.0)

pub returns-after-loop-shift : goal.returns-after-loop-shift
returns-after-loop-shift c = let p = c.loop-shift.invariant in
    let e : 8 - c.loop-shift.shift ≡ 0 = omega arith in
    let z : c.loop-shift.rest < 2 ^ 0 = rw e at p.1.bound in
    let q = put_all _ _ _ _ _ (omega (arith, c.requires.0)) (no_bits _ _ _ _ _ _ p.1 (lt-one z)) in
    (q.0, q.1, p.0)
