-- `check_models_leaves` meets its contract: no leaf is counted before the first model. Assumes nothing.
use Rattle.std.proofs.Common.{arith, refl}
use Rattle.models.specs.Model.{leaf_id_of}
use Rattle.accept.specs.Accept.{model_leaves}
use Rattle.accept.proofs.Checks.{begins}
use Rattle.accept.proofs.references.check_models_leaves.Goals as goal

pub loop-i-init : goal.loop-i-init
unfolding leaf_id_of
loop-i-init c = let a = c.args in (refl, omega arith, begins (model_leaves a.file.now a.map) _ _ 0 (omega (arith, c.record_count-count.ensures)))
