-- `textures::earliest::look_up_all` meets its contract: the textures so far are looked up.
-- Assumes nothing.
use Rattle.std.specs.Prelude.{length}
use Rattle.texture_list.specs.Kind.{passing, starts, ends}
use Rattle.textures.specs.Table.{KnownTo, Heads}
use Rattle.texture_list.specs.declared.kind.Kind.TheVariants.{Animated}
use Rattle.textures.proofs.earliest.look_up_all.Given as goal

abbrev pub invariant-loop-i : goal.invariant-loop-i
invariant-loop-i l = record {
  known : KnownTo (passing l.s l.base Animated) (starts l.s l.base) (ends l.s l.base) (length l.fn.list) l.part.from l.part.to l.i l.list;
  heads : Heads (passing l.s l.base Animated) (starts l.s l.base) (ends l.s l.base) l.t (length l.fn.heads) l.part.from l.heads l.i;
}
