-- `textures::number::nth_static` meets its contract: the test asks whether a texture is static.
-- Assumes nothing.
use Rattle.std.specs.Prelude.{not}
use Rattle.std.proofs.Common.{rules, tests}
use Rattle.texture_list.specs.Kind.{passing}
use Rattle.texture_list.specs.declared.kind.Kind.TheVariants.{Animated}
use Rattle.textures.proofs.number.nth_static.Goals as goal

pub returns : goal.returns
returns c = let a = c.args in c.nth_such.ensures (λ i. not (passing a.s.now a.base Animated i)) (λ i r h e. search (rules, tests))
