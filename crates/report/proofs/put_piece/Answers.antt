-- `put_piece` meets its contract: the whole piece where it has room, else its beginning. Assumes nothing.
use mathlib.Core.Path.{◌∙◌}
use native.Mathlib.Omega.{arith}
use lib.Seq.{length-take-le}
use Rattle.report.proofs.Lines.{on_ok, all_put, part_put}
use Rattle.report.proofs.put_piece.Goals as goal

pub returns-then-piece-room : goal.returns-then-piece-room
returns-then-piece-room c =
    let e = c.try_extend_from_slice.ensures in
    on_ok _ _ (e.variant.1 (omega (arith, c.if-piece-room.true, c.remaining_capacity-room.ensures))) e.ok ∙ all_put _ _ _ c.remaining_capacity-room.ensures c.if-piece-room.true

pub returns-else-piece-room : goal.returns-else-piece-room
returns-else-piece-room c =
    let e = c.try_extend_from_slice-else-piece-room.ensures in
    on_ok _ _ (e.variant.1 (omega (arith, c.if-piece-room.false, c.remaining_capacity-room.ensures, length-take-le c.remaining_capacity-room.result c.args.piece.now (omega (arith, c.if-piece-room.false))))) e.ok ∙ part_put _ _ _ c.remaining_capacity-room.ensures
