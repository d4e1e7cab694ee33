-- `segment_in` meets its contract: what is made of the node and its plane that were found.
-- Assumes nothing.
use Rattle.std.proofs.Common.{sym}
use Rattle.nodes.specs.Fast.{node_of, plane_here}
use Rattle.nodes.specs.Walks.{node_and_dists}
use Rattle.nodes.proofs.Making.{with_dists}
use Rattle.nodes.proofs.Handed.{one_found}
use Rattle.nodes.proofs.whole.Sections.segment_in.Goals as goal

pub returns : goal.returns
returns c = let a = c.args in let w = c.in_ok-words.words in
    one_found (node_and_dists a.p a.q) a.self.now.render a.self.now.nodes.now a.self.now.planes.now a.index c.found_in.result c.found_in.ensures _ _ c.in_ok-words.was (λ t. (node_of t w, (c.dists_here-a.result.0, c.dists_here-a.result.1))) (λ t. with_dists (node_of t w) a.p a.q (plane_here c.in_ok-words.plane.now 0) _ _ (sym c.dists_here-a.ensures))
