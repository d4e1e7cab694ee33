-- `look_in` meets its contract: what is made of the node and its plane that were found.
-- Assumes nothing.
use Rattle.math.specs.Plane.{point_dist, from_dist}
use Rattle.nodes.specs.Fast.{child_of, plane_here, point_of}
use Rattle.nodes.specs.Walks.{child_by_distance}
use Rattle.nodes.proofs.Making.{at_side}
use Rattle.nodes.proofs.Handed.{one_found}
use Rattle.nodes.proofs.whole.Sections.look_in.Goals as goal

pub returns : goal.returns
returns c = let a = c.args in let w = c.in_ok-words.words in
    one_found (child_by_distance (point_of a.point.now)) a.self.now.render a.self.now.nodes.now a.self.now.planes.now a.index c.found_in.result c.found_in.ensures _ _ c.in_ok-words.was (λ t. child_of t c.word_by_distance.result) (λ t. at_side t w (from_dist (point_dist (plane_here c.in_ok-words.plane.now 0) (point_of a.point.now))) _ c.word_by_distance.ensures)
