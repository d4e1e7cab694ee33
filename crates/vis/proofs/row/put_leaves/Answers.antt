-- `put_leaves` meets its contract: a first leaf above `MOST_FIRST` counts as that one, and the entry after the leaves is put back. Assumes nothing.
use Rattle.std.specs.Prelude.{◌≡◌, ◌^◌, ◌<◌, min}
use Rattle.std.proofs.Common.{rules, refl, arith}
use Rattle.vis.proofs.SetBits.{as_many, put_back}
use Rattle.vis.proofs.row.put_leaves.Goals as goal

pub put_last-requires : goal.put_last-requires
put_last-requires c = let a = c.args in
    let b : a.byte < 2 ^ 8 = search rules in
    (omega (arith, as_many a.byte c.min-first.result _ b refl, c.if-count-list.true), omega (arith, c.min-first.ensures))

pub returns-then-count-list : goal.returns-then-count-list
returns-then-count-list c = let a = c.args in
    let e : c.min-first.result ≡ min a.first 4294967287 = c.min-first.ensures in
    let b : a.byte < 2 ^ 8 = search rules in
    let p = c.put_last.ensures in
    let q = put_back a.byte c.min-first.result c.put_last.result _ a.list.now c.put_last.new.list b c.if-count-list.true c.put_last.auto.list refl p.0 p.1 p.2 in
    (rw (← e) q.0, rw (← e) q.1)
