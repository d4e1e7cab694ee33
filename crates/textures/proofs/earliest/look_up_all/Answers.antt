-- `textures::earliest::look_up_all` meets its contract: the textures so far are looked up
-- Assumes nothing.
use Rattle.std.specs.Prelude.{length}
use Rattle.texture_list.specs.Kind.{passing, starts, ends}
use Rattle.texture_list.specs.declared.kind.Kind.TheVariants.{Animated}
use Rattle.textures.proofs.Leads.{no_heads, known_start}
use Rattle.textures.proofs.earliest.look_up_all.Goals as goal

pub loop-i-init : goal.loop-i-init
loop-i-init c =
    let a = c.args in
    let p = c.requires in
    record {
      known = known_start (passing a.s.now a.base Animated) (starts a.s.now a.base) (ends a.s.now a.base) (length a.list.now) a.part.from a.part.to p.1.0 a.list.now p.1.1.1.1.0;
      heads = no_heads (passing a.s.now a.base Animated) (starts a.s.now a.base) (ends a.s.now a.base) a.t.now _ _ _ (c.fill.ensures.after (λ y e. e));
    }
