-- `models::text::entity_text` meets its contract: a text that is found ends within the file, or is empty.
-- Assumes nothing.
use Rattle.std.proofs.Common.{arith}
use Rattle.models.proofs.Texts.{within}
use Rattle.models.proofs.text.entity_text.Goals as goal

pub overflow_add-part : goal.overflow_add-part
overflow_add-part c = omega (arith, within _ _ _ c.in-Ok.ensures)
