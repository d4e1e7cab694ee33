-- `textures::earliest::find_each` meets its contract: none is known before the first part
-- Assumes nothing.
use Rattle.std.specs.Prelude.{length}
use Rattle.std.proofs.Common.{arith}
use Rattle.texture_list.specs.Kind.{passing, starts, ends}
use Rattle.texture_list.specs.declared.kind.Kind.TheVariants.{Animated}
use Rattle.textures.proofs.Leads.{known_none}
use Rattle.textures.proofs.earliest.find_each.Goals as goal

pub look_up_parts-requires : goal.look_up_parts-requires
look_up_parts-requires c =
    let a = c.args in
    let none = known_none (passing a.s.now a.base Animated) (starts a.s.now a.base) (ends a.s.now a.base) (length a.list.now) c.fill.new.self (c.fill.ensures.after (λ y e. e)) in
    (omega (arith, c.requires, c.fill.ensures.len), rw c.fill.ensures.len none)
