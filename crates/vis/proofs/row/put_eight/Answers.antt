-- `put_eight` meets its contract. The loop's invariant: the leaves of the bits passed stand at the front, and with those of the bits that are
-- left they are the byte's leaves. Assumes nothing.
use Rattle.std.specs.Prelude.{◌≡◌, suc, ◌+◌, ◌-◌, ◌%◌, ◌^◌, ◌<◌, ◌≤◌, length}
use Rattle.std.proofs.Common.{rules, refl, arith}
use native.Mathlib.Nat.{add-zero}
use lib.Arith.{lt-one}
use Rattle.vis.specs.Row.{bits, visible}
use Rattle.vis.proofs.SetBits.{starts, no_bits, put_next, kept_next, put_all, at_most_eight}
use Rattle.vis.proofs.row.put_eight.Goals as goal

pub loop-shift-init : goal.loop-shift-init
loop-shift-init c = let a = c.args in
    let b : a.byte < 2 ^ 8 = search rules in
    let f : a.count + length (visible a.first (bits 8 a.byte)) ≤ length a.list.now = omega (arith, at_most_eight a.byte a.first b, c.requires.0) in
    (omega arith, refl, rw add-zero (starts a.byte a.first a.count a.list.now b f))

pub loop-shift-preserved : goal.loop-shift-preserved
loop-shift-preserved c = let a = c.args in
    let l = c.loop-shift in
    let e : 8 - l.shift ≡ suc (8 - (l.shift + 1)) = omega arith in
    let f : a.first + (l.shift + 1) ≡ a.first + l.shift + 1 = omega arith in
    (omega arith, kept_next l.at (l.rest % 2) (a.first + l.shift) a.list.now l.list l.invariant.1, rw f (put_next _ _ _ _ _ _ (rw e at l.invariant.2) (omega arith)))

pub returns : goal.returns
returns c = let p = c.loop-shift.invariant in
    let e : 8 - c.loop-shift.shift ≡ 0 = omega arith in
    let z : c.loop-shift.rest < 2 ^ 0 = rw e at p.2.bound in
    let q = put_all _ _ _ _ _ (omega (arith, c.requires.0)) (no_bits _ _ _ _ _ _ p.2 (lt-one z)) in
    (q.0, q.1, p.1)
