-- `check_models_leaves` meets its contract: the models left, from i on, say what all of them say, and the leaves of those before i are added up. Assumes nothing.
use mathlib.Core.Path.{◌≡◌}
use Prim.Native.Nat.{◌-◌, ◌<◌, ◌^◌}
use Rattle.format.specs.Answer.{answer}
use Rattle.format.specs.Section.{record_count}
use Rattle.format.specs.declared.section.BspFileSectionId.TheVariants.{Models}
use Rattle.models.specs.Model.{leaf_id_of}
use Rattle.accept.specs.Accept.{each, model_leaves}
use Rattle.accept.proofs.references.check_models_leaves.Given as goal

abbrev pub invariant-loop-i : goal.invariant-loop-i
invariant-loop-i l =
    (leaf_id_of l.file l.map l.i ≡ answer l.last)
    × (l.last < 2 ^ 32)
    × (each (model_leaves l.file l.map) (l.count - l.i) l.i ≡ each (model_leaves l.file l.map) (record_count Models l.map.models) 0)
