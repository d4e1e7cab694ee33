-- `told` meets its contract: from the bytes that settle the points.
-- Assumes nothing.
use native.Mathlib.Omega.{arith}
use mathlib.Core.Path.{refl, ap}
use mathlib.Core.List.{◌++◌}
use lib.ListN.{length, drop}
use Rattle.nodes.specs.Fast.{table}
use Rattle.points.proofs.Finished.{first_refused, never, all_answered}
use Rattle.points.proofs.many.told.Goals as goal
use Rattle.format.proofs.Answers.{handed_on}
use Rattle.format.proofs.Copies.{copied_part}

pub returns-in_err-contents_in : goal.returns-in_err-contents_in
returns-in_err-contents_in c =
    let a = c.args in
    let d = c.requires in
    rw (handed_on c.from_residual.ensures.1)
    (first_refused a.s.now a.t a.coords.now (length a.bytes.now) a.root d.threes (table a.s.now a.t) refl
    d.before a.bytes.now a.reads d.as_long d.settled _ c.first_zero-zero.ensures c.if-zero-count.true
    _ c.point_at.ensures a.list.now _ c.in_err-contents_in.ensures)

pub returns-then-zero-count : goal.returns-then-zero-count
returns-then-zero-count c =
    let a = c.args in
    let d = c.requires in
    absurd
    (never a.s.now a.t a.coords.now (length a.bytes.now) a.root d.threes (table a.s.now a.t) refl
    d.before a.bytes.now a.reads d.as_long d.settled _ c.first_zero-zero.ensures c.if-zero-count.true
    _ c.point_at.ensures a.list.now _ _ c.in_ok-contents_in.ensures)

pub returns : goal.returns
returns c =
    let a = c.args in
    let d = c.requires in
    all_answered a.s.now a.t a.coords.now (length a.bytes.now) a.root d.threes (table a.s.now a.t) refl
    d.before a.bytes.now a.reads d.as_long d.settled _ c.first_zero-zero.ensures c.if-zero-count.false
    a.list.now _ (ap (λ l. l ++ drop (length a.bytes.now) a.list.now) (copied_part a.bytes.now a.list.now (omega (arith, d.room, d.as_long)) c.copy_apart.ensures))
