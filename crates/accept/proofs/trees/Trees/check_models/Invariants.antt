-- `check_models` meets its contract: the models left, from i on, say what all of them say, and the map stays the same. Assumes nothing.
use mathlib.Core.Path.{◌≡◌}
use Prim.Native.Nat.{◌-◌}
use Rattle.format.specs.Section.{record_count}
use Rattle.format.specs.declared.section.BspFileSectionId.TheVariants.{Models}
use Rattle.accept.specs.Accept.{each, model_trees}
use Rattle.accept.proofs.trees.Trees.check_models.Given as goal

abbrev pub invariant-loop-i : goal.invariant-loop-i
invariant-loop-i l =
    (l.self ≡ l.fn.self)
    × (each (model_trees l.fn.self.file l.fn.self.map) (l.count - l.i) l.i ≡ each (model_trees l.fn.self.file l.fn.self.map) (record_count Models l.fn.self.map.models) 0)
