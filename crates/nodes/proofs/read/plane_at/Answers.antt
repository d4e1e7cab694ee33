-- `plane_at` meets its contract: the index (30), then a box's plane, or the plane's place (23) and its record.
-- Assumes nothing.
use Rattle.std.proofs.Common.{sym, refl, ap, ◌∙◌, Ok, Err}
use Rattle.format.specs.Answer.{answer}
use Rattle.nodes.proofs.Planes.{plane_at_lem, plane_not}
use Rattle.nodes.proofs.read.plane_at.Goals as goal
use Rattle.format.proofs.Answers.{handed_on}

pub returns-in_err-at : goal.returns-in_err-at
returns-in_err-at c =
    let e = c.in_err-at.field-0.0 in
    rw (handed_on c.from_residual.ensures.1) (sym (plane_not _ _ _ c.if-planes-index.false _ c.is_box.ensures c.if-is_box.false (Err e) c.in_err-at.ensures e refl))

pub returns : goal.returns
returns c = ap answer (c.plane_here.ensures ∙ c.plane_bytes_at.ensures) ∙ sym (plane_at_lem _ _ _ c.if-planes-index.false _ c.is_box.ensures c.if-is_box.false (Ok c.in_ok-at.at) c.in_ok-at.ensures _ refl)
