-- `textures::number::count_static` meets its contract: the test asks whether a texture is static.
-- Assumes nothing.
use Rattle.std.specs.Prelude.{ℕ, Bool, ◌≡◌, not}
use Rattle.std.proofs.Common.{◌∙◌, arith, rules, tests}
use Rattle.std.proofs.lemmas.Iterator.{YieldsList-from_range}
use Rattle.std.proofs.lemmas.Iterator.Consumers.{YieldsList-from_filter, count_from_yields_List}
use Rattle.textures.specs.Count.{count}
use Rattle.texture_list.specs.Kind.{passing}
use Rattle.texture_list.specs.declared.kind.Kind.TheVariants.{Animated}
use Rattle.textures.proofs.Firsts.{count_below}
use Rattle.textures.proofs.Scans.{count_of_range}
use Rattle.textures.proofs.number.count_static.Goals as goal

pub returns : goal.returns
returns c =
    let a = c.args in
    let p : ℕ → Bool = λ i. not (passing a.s.now a.base Animated i) in
    let e : c.count.result ≡ count p a.upto =
    count_from_yields_List c.filter.result _ c.count.ensures.ran (YieldsList-from_filter _ p (YieldsList-from_range 0 a.upto a.upto (cc) (omega arith)) c.filter.ensures.closure (λ x b q k. search (rules, tests)))
    ∙ count_of_range p a.upto in
    omega (arith, e, count_below p a.upto)
