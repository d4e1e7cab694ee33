-- `word_code` meets its contract: the number is the code where it is one.
-- Assumes nothing.
use Rattle.std.proofs.Common.{◌-◌, refl, sym, ap, ◌∙◌, cond}
use Rattle.nodes.proofs.Quicks.{number_said}
use Rattle.nodes.proofs.quick.word_code.Goals as goal

pub returns-then-is_code : goal.returns-then-is_code
returns-then-is_code c = let n = 65536 - c.args.word in ap (λ b. cond b n 0) (sym c.if-is_code.true) ∙ number_said n _ refl _ c.is_code.ensures

pub returns-else-is_code : goal.returns-else-is_code
returns-else-is_code c = let n = 65536 - c.args.word in ap (λ b. cond b n 0) (sym c.if-is_code.false) ∙ number_said n _ refl _ c.is_code.ensures
