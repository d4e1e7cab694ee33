-- `list_pool` meets its contract: the positions begin with the starts. Assumes nothing.
use native.Mathlib.Omega.{arith}
use mathlib.Core.List.{[]}
use Rattle.format.proofs.Copies.{copied_part}
use Rattle.team.proofs.Found.{as_many, some_rows, start_cursors, counted, pool_short, pool_fits, pool_listed}
use Rattle.team.proofs.pool.list_pool.Goals as goal

pub returns-then-list-count : goal.returns-then-list-count
returns-then-list-count c = let q = (copied_part c.args.starts.now _ (omega (arith, c.requires.2)) c.copy_apart.ensures) in
    let k = c.requires.2 in
    pool_short c.args.visibility.now c.args.leaf_count c.args.starts.now _ [] k q _ _ (counted _ _ _ _ _ k q _ c.pool_length-count.ensures) c.if-list-count.true

pub put_pool-requires : goal.put_pool-requires
put_pool-requires c = let r = c.requires in
    let q = (copied_part c.args.starts.now _ (omega (arith, c.requires.2)) c.copy_apart.ensures) in
    let e = counted _ _ _ _ _ r.2 (copied_part c.args.starts.now _ (omega (arith, c.requires.2)) c.copy_apart.ensures) _ c.pool_length-count.ensures in (
      r.0,
      as_many c.args.visibility.now c.args.leaf_count c.args.starts.now _ _ r.2 q,
      some_rows c.args.visibility.now c.args.leaf_count c.args.starts.now _ _ r.2 q r.1,
      start_cursors c.args.visibility.now c.args.leaf_count c.args.starts.now _ _ r.2 q r.3,
      pool_fits c.args.visibility.now c.args.leaf_count c.args.starts.now _ _ r.2 q _ _ e c.if-list-count.false,
    )

pub returns : goal.returns
returns c = let k = c.requires.2 in
    pool_listed c.args.visibility.now c.args.leaf_count c.args.starts.now _ _ k (copied_part c.args.starts.now _ (omega (arith, c.requires.2)) c.copy_apart.ensures) _ _
    (counted _ _ _ _ _ k (copied_part c.args.starts.now _ (omega (arith, c.requires.2)) c.copy_apart.ensures) _ c.pool_length-count.ensures) c.if-list-count.false _ c.put_pool.ensures
