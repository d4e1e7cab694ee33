-- `models::model::leaf_id` meets its contract: so far the leaf counts of the models passed are added up, each below 2^32.
-- Assumes nothing.
use Rattle.std.proofs.Common.{◌≡◌, ◌*◌, ◌≤◌}
use Rattle.format.specs.Answer.{answer}
use Rattle.models.specs.Model.{leaf_id_of}
use Rattle.models.proofs.model.leaf_id.Given as goal

abbrev pub invariant-loop-i : goal.invariant-loop-i
invariant-loop-i l = record { few_leaves : l.total ≤ l.i * 4294967296; so_far : leaf_id_of l.s l.map l.i ≡ answer l.total }
