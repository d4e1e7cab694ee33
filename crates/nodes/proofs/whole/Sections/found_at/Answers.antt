-- `found_at` meets its contract: the node, its plane's number (30), the plane's bytes.
-- Assumes nothing.
use Rattle.std.proofs.Common.{◌*◌, ap}
use Rattle.math.specs.declared.plane.Hyperplane.{Hyperplane}
use Rattle.nodes.specs.Tables.{file_table}
use Rattle.nodes.specs.Fast.{node_of, node_size}
use Rattle.nodes.proofs.Making.{in_made}
use Rattle.nodes.proofs.whole.Sections.found_at.Goals as goal

pub returns : goal.returns
returns c = let a = c.args in let w = c.in_ok-words.words in
    in_made (λ x. x) a.self.now.render a.self.now.nodes.now a.self.now.planes.now (a.index * node_size a.self.now.render) c.words_in.result c.words_in.ensures w c.in_ok-words.was c.if-self-plane.false _
    (ap (λ (y : Hyperplane). record { nd = node_of (file_table a.self.now.render) w; plane = y }) c.plane_bytes_at.ensures)
