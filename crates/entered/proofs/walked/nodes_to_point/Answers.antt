-- `nodes_to_point` meets its contract: first the walk for its answer and its length, then the walk that writes.
-- Assumes nothing.
use Prim.Native.Nat.{◌^◌, ◌<◌}
use native.Mathlib.Omega.{arith}
use lib.ListN.{length}
use mathlib.Core.Path.{sym, ap, ◌∙◌}
use Rattle.format.specs.Answers.{answer_of}
use Rattle.entered.proofs.Trails.{point_listed}
use Rattle.entered.proofs.walked.nodes_to_point.Goals as goal

-- a slice is shorter than 2^63
pub returns : goal.returns
returns c = let short : length c.args.list.now < 2 ^ 63 = omega arith in
    c.list_walk.ensures ∙ point_listed _ _ _ _ _ short _ _ _ _ c.tables_of-t.ensures _ _ (sym (ap answer_of c.in_ok-visits.was) ∙ c.contents_at_point.ensures)
