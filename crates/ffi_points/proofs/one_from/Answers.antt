-- `ffi_points::one_from` meets its contract. Assumes nothing.
use mathlib.Core.Path.{sym, ap₂, ◌∙◌}
use Rattle.math.specs.Vector.{vector}
use Rattle.ffi_points.specs.Private.{one_told}
use Rattle.ffi_points.proofs.Single.{code_fits, told_at_once}
use Rattle.ffi_points.proofs.one_from.Goals as goal

pub overflow_cast-list : goal.overflow_cast-list
overflow_cast-list c = record { fits = code_fits _ _ _ _ _ (sym c.in-Some.is ∙ c.quick_contents.ensures) }

pub returns-in-Some : goal.returns-in-Some
returns-in-Some c = let s = c.args in
    told_at_once _ _ _ _ _ (sym c.in-Some.is ∙ c.quick_contents.ensures) s.list.now s.out.now c.requires.0 c.requires.1
    ∙ ap₂ (λ m h. one_told s.file.now m h (vector s.x s.y s.z) s.list.now s.out.now) c.walked_map-m.ensures c.node_hull-h.ensures
