-- `textures::group::mark_one` meets its contract: a texture of the kind whose stem the table has or has not, or none
-- Assumes nothing.
use Rattle.texture_list.specs.Kind.{passing, starts, ends}
use Rattle.textures.proofs.Marks.{mark_skip}
use Rattle.textures.proofs.Sieves.{sought_sifted, sifted_none, sifted_inside}
use Rattle.textures.proofs.Steps.{is_not}
use Rattle.textures.proofs.group.mark_one.Goals as goal

pub bounds-marks-v : goal.bounds-marks-v
bounds-marks-v c = let q = c.requires in let a = c.args in sifted_inside (passing a.s.now a.base a.kind) (starts a.s.now a.base) (ends a.s.now a.base) _ _ q.0 a.marks.now _ q.1.0 _ (sought_sifted _ _ c.key_of-key.ensures _ _ c.seek_sifted.ensures) _ c.in-Some.is

pub returns-in_default : goal.returns-in_default
returns-in_default c = let q = c.requires in let a = c.args in sifted_none (passing a.s.now a.base a.kind) (starts a.s.now a.base) (ends a.s.now a.base) _ _ q.0 a.marks.now _ q.1.0 _ (sought_sifted _ _ c.key_of-key.ensures _ _ c.seek_sifted.ensures) c.in_default.not-Some

pub returns-else-is_kind : goal.returns-else-is_kind
returns-else-is_kind c = let q = c.requires in let a = c.args in mark_skip (passing a.s.now a.base a.kind) (starts a.s.now a.base) (ends a.s.now a.base) _ _ q.0 a.marks.now _ q.1.0 (is_not _ _ _ c.key_of-key.ensures _ c.is_kind.ensures c.if-is_kind.false)
