-- `order_nodes` meets its contract. Assumes nothing.
use Prim.Native.Nat.{◌<◌}
use native.Mathlib.Omega.{arith}
use mathlib.Core.List.{[]}
use Rattle.order.proofs.Whole.{root_small, tree_refused, leaf_refused, table_short, rows_put}
use Rattle.order.proofs.order_nodes.Goals as goal
use Rattle.format.proofs.Answers.{handed_on}

pub returns-in_err-count : goal.returns-in_err-count
returns-in_err-count c = rw (handed_on c.from_residual.ensures.1) (tree_refused _ _ _ _ _ _ _ _ c.tree_size.ensures _ c.in_err-count.was)

pub overflow_cast-word : goal.overflow_cast-word
overflow_cast-word c = let h : c.args.root < 32768 = root_small c.args.file.now c.args.map c.args.kind c.args.marks.now c.args.root [] _ _ c.tree_size.ensures _ _ c.in_ok-count.was in
    record { fits = omega arith }

pub returns-in_err-ends_read : goal.returns-in_err-ends_read
returns-in_err-ends_read c = rw (handed_on c.from_residual-in_err-ends_read.ensures.1) (leaf_refused _ _ _ _ _ _ _ _ c.tree_size.ensures _ _ c.in_ok-count.was _ c.new-none.ensures _ c.tables_of-tables.ensures _ c.ends_read.ensures _ c.in_err-ends_read.was)

pub returns-then-table-count : goal.returns-then-table-count
returns-then-table-count c = table_short _ _ _ _ _ _ _ _ c.tree_size.ensures _ _ c.in_ok-count.was _ c.new-none.ensures _ c.tables_of-tables.ensures _ c.ends_read.ensures _ c.in_ok-ends_read.was c.if-table-count.true

pub returns : goal.returns
returns c = rows_put _ _ _ _ _ _ _ _ c.tree_size.ensures _ _ c.in_ok-count.was _ c.new-none.ensures _ c.tables_of-tables.ensures _ c.ends_read.ensures _ c.in_ok-ends_read.was (omega (arith, c.well_formed.1.0)) c.if-table-count.false _ c.write_part.ensures
