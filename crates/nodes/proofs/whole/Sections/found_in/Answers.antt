-- `found_in` meets its contract: the node of an index, if there is one.
-- Assumes nothing.
use Rattle.std.proofs.Common.{sym, ◌∙◌}
use Rattle.nodes.specs.Walks.{found_answer}
use Rattle.nodes.proofs.Handed.{there, not_there}
use Rattle.nodes.proofs.whole.Sections.found_in.Goals as goal

pub returns-then-has_node : goal.returns-then-has_node
returns-then-has_node c = let a = c.args in there (λ x. x) a.self.now.render a.self.now.nodes.now a.self.now.planes.now a.index (sym c.has_node.ensures ∙ c.if-has_node.true) (λ t. found_answer t c.found_at.result) c.found_at.ensures

pub returns : goal.returns
returns c = let a = c.args in not_there (λ x. x) a.self.now.render a.self.now.nodes.now a.self.now.planes.now a.index (sym c.has_node.ensures ∙ c.if-has_node.false)
