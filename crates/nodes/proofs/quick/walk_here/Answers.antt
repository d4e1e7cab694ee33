-- `walk_here` meets its contract: by the bytes of whole sections, in the loop of the kind of nodes, or nothing is said.
-- Assumes nothing.
use Rattle.std.proofs.Common.{true, false, arith}
use Rattle.math.specs.Vector.{vector}
use Rattle.nodes.proofs.Quicks.{no_table, few_of, by_kind}
use Rattle.nodes.proofs.quick.walk_here.Goals as goal

pub returns-then-not-whole : goal.returns-then-not-whole
returns-then-not-whole c = let a = c.args in record { said = no_table a.s.now a.render a.at a.count a.planes_at a.planes_count _ c.tables_by-t.ensures _ c.are_whole-whole.ensures c.if-not-whole.true a.root (vector a.x a.y a.z); bounded = omega arith }

pub walk_whole-requires : goal.walk_whole-requires
walk_whole-requires c = let a = c.args in few_of a.s.now a.render a.at a.count a.planes_at a.planes_count _ c.tables_by-t.ensures _ c.are_whole-whole.ensures _ _ c.if-not-whole.false c.node_bytes-nodes.ensures c.plane_bytes-planes.ensures true c.if-render.true

pub returns-then-render : goal.returns-then-render
returns-then-render c = let a = c.args in record {
  said = by_kind a.s.now a.render a.at a.count a.planes_at a.planes_count _ c.tables_by-t.ensures _ c.are_whole-whole.ensures _ _ c.if-not-whole.false c.node_bytes-nodes.ensures c.plane_bytes-planes.ensures true c.if-render.true a.root (vector a.x a.y a.z) _ c.walk_whole.ensures.said;
  bounded = c.walk_whole.ensures.bounded;
}

pub walk_clips-requires : goal.walk_clips-requires
walk_clips-requires c = let a = c.args in few_of a.s.now a.render a.at a.count a.planes_at a.planes_count _ c.tables_by-t.ensures _ c.are_whole-whole.ensures _ _ c.if-not-whole.false c.node_bytes-nodes.ensures c.plane_bytes-planes.ensures false c.if-render.false

pub returns : goal.returns
returns c = let a = c.args in record {
  said = by_kind a.s.now a.render a.at a.count a.planes_at a.planes_count _ c.tables_by-t.ensures _ c.are_whole-whole.ensures _ _ c.if-not-whole.false c.node_bytes-nodes.ensures c.plane_bytes-planes.ensures false c.if-render.false a.root (vector a.x a.y a.z) _ c.walk_clips.ensures.said;
  bounded = c.walk_clips.ensures.bounded;
}
