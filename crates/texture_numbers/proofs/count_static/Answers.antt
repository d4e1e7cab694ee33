-- `texture_numbers::count_static` meets its contract: the test asks whether a texture has no stem.
-- Assumes nothing.
use Rattle.std.specs.Prelude.{◌≡◌, eqb, length}
use Rattle.std.proofs.Common.{◌∙◌, arith, rules, tests}
use Rattle.std.proofs.lemmas.Iterator.{YieldsList-from_slice}
use Rattle.std.proofs.lemmas.Iterator.Consumers.{YieldsList-from_filter, count_from_yields_List}
use Rattle.textures.specs.Count.{count}
use Rattle.textures.proofs.Firsts.{count_below}
use Rattle.textures.proofs.Scans.{count_of_list}
use Rattle.texture_numbers.specs.Renumber.{has_none}
use Rattle.texture_numbers.proofs.count_static.Goals as goal

pub returns : goal.returns
returns c =
    let l = c.args.list.now in
    let e : c.count.result ≡ count (has_none l) (length l) =
    count_from_yields_List c.filter.result _ c.count.ensures.ran (YieldsList-from_filter _ (λ x. eqb x 4294967295) (YieldsList-from_slice l (cc)) c.filter.ensures.closure (λ x b q k. search (rules, tests)))
    ∙ count_of_list (λ x. eqb x 4294967295) l in
    omega (arith, e, count_below (has_none l) (length l), c.requires)
