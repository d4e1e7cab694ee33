-- `ffi_walks::quick_leaf` meets its contract. Assumes nothing.
use Rattle.ffi_walks.specs.Private.{leaf_at_once}
use Rattle.ffi_walks.proofs.Found.{no_leaf_walk, no_leaf, has_leaf}
use Rattle.ffi_walks.proofs.quick_leaf.Goals as goal

pub returns-then-end-eq0 : goal.returns-then-end-eq0
unfolding leaf_at_once
returns-then-end-eq0 c = let a = c.args in
    no_leaf_walk a.file.now a.map a.root a.point _ c.tables_of-t.ensures _ c.walk_quick-end.ensures.said c.if-end-eq0.true

pub returns-then-l-leaf : goal.returns-then-l-leaf
unfolding leaf_at_once
returns-then-l-leaf c = let a = c.args in
    no_leaf a.file.now a.map a.root a.point _ c.tables_of-t.ensures _ c.walk_quick-end.ensures.said c.if-end-eq0.false c.if-l-leaf.true

pub returns : goal.returns
unfolding leaf_at_once
returns c = let a = c.args in
    has_leaf a.file.now a.map a.root a.point _ c.tables_of-t.ensures _ c.walk_quick-end.ensures.said c.if-end-eq0.false c.if-l-leaf.false
