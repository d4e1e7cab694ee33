-- `ffi_walks::quick_contents` meets its contract. Assumes nothing.
use mathlib.Core.Path.{sym, ap, ◌∙◌}
use Rattle.nodes.specs.Fast.{tables_of}
use Rattle.ffi_walks.specs.Quick.{contents_at_once}
use Rattle.ffi_walks.proofs.Found.{of_box, no_walk, no_code, has_code}
use Rattle.ffi_walks.proofs.quick_contents.Goals as goal

pub returns-then-is_box : goal.returns-then-is_box
unfolding contents_at_once
returns-then-is_box c = let a = c.args in
    of_box a.file.now a.map a.hull.mins a.hull.maxs a.hull.node_id a.point a.hull.table (sym c.is_box.ensures ∙ c.if-is_box.true)

pub returns-then-end-eq0 : goal.returns-then-end-eq0
unfolding contents_at_once
returns-then-end-eq0 c = let a = c.args in
    no_walk a.file.now a.map a.hull.mins a.hull.maxs a.hull.node_id a.point a.hull.table _ c.is_render-drawn.ensures (sym c.is_box.ensures ∙ c.if-is_box.false) _
    (c.tables_of-t.ensures ∙ ap (λ tab. tables_of a.map tab a.hull.mins a.hull.maxs) c.of_nodes.ensures) _ c.walk_quick-end.ensures.said c.if-end-eq0.true

pub returns-then-code-eq0 : goal.returns-then-code-eq0
unfolding contents_at_once
returns-then-code-eq0 c = let a = c.args in
    no_code a.file.now a.map a.hull.mins a.hull.maxs a.hull.node_id a.point a.hull.table _ c.is_render-drawn.ensures (sym c.is_box.ensures ∙ c.if-is_box.false) _
    (c.tables_of-t.ensures ∙ ap (λ tab. tables_of a.map tab a.hull.mins a.hull.maxs) c.of_nodes.ensures) _ c.walk_quick-end.ensures.said c.if-end-eq0.false _ c.end_code_sized-code.ensures
    c.if-code-eq0.true

pub returns : goal.returns
unfolding contents_at_once
returns c = let a = c.args in
    has_code a.file.now a.map a.hull.mins a.hull.maxs a.hull.node_id a.point a.hull.table _ c.is_render-drawn.ensures (sym c.is_box.ensures ∙ c.if-is_box.false) _
    (c.tables_of-t.ensures ∙ ap (λ tab. tables_of a.map tab a.hull.mins a.hull.maxs) c.of_nodes.ensures) _ c.walk_quick-end.ensures.said c.if-end-eq0.false _ c.end_code_sized-code.ensures
    c.if-code-eq0.false
