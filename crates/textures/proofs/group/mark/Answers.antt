-- `textures::group::mark` meets its contract: the nodes with the stems of the textures so far are marked
-- Assumes nothing.
use Rattle.texture_list.specs.Kind.{passing, starts, ends}
use Rattle.textures.proofs.Marks.{marks_none}
use Rattle.textures.proofs.group.mark.Goals as goal

pub loop-i-init : goal.loop-i-init
loop-i-init c = let a = c.args in marks_none (passing a.s.now a.base a.kind) (starts a.s.now a.base) (ends a.s.now a.base) _ _ c.requires.0 _ _ (c.fill.ensures.after (λ y e. e))
