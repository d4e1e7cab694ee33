-- `nodes_of_trace` meets its contract: first the trace for its answer and its length, then the trace that writes.
-- Assumes nothing.
use Prim.Native.Nat.{◌^◌, ◌<◌}
use native.Mathlib.Omega.{arith}
use mathlib.Core.Path.{sym, ap, ◌∙◌}
use lib.ListN.{length}
use Rattle.format.specs.Answers.{answer_of}
use Rattle.walk.specs.Tracing as Tracing
use Rattle.hull.specs.Hull.{hull_table}
use Rattle.entered.proofs.Listing.{traced_list_lem}
use Rattle.entered.proofs.Parts.{in_hull}
use Rattle.entered.proofs.traced.nodes_of_trace.Goals as goal

-- a slice is shorter than 2^63
pub returns : goal.returns
returns c = let short : length c.args.list.now < 2 ^ 63 = omega arith in
    traced_list_lem _ _ c.args.list.now short c.if-list-visits.false _ c.write_onward.result (Tracing.trace (hull_table c.args.s.now c.args.map c.args.hull) c.args.hull.node_id c.args.start c.args.end) (sym (ap answer_of c.in_ok-visits.was) ∙ c.trace.ensures) (c.write_onward.ensures ∙ in_hull _ _ _ _ _ _ c.tables_of-t.ensures _ _ c.new-from.ensures _ _ c.terminal-to.ensures _ _)
