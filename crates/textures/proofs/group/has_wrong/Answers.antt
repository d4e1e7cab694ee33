-- `textures::group::has_wrong` meets its contract: it asks each number below the count.
-- Assumes nothing.
use Rattle.std.proofs.Common.{◌∙◌, arith, rules, tests}
use Rattle.std.proofs.lemmas.Iterator.{YieldsList-from_range}
use Rattle.std.proofs.lemmas.Iterator.Search.{any_from_yields_List}
use Rattle.texture_list.specs.Kind.{is_wrong_key, key_of}
use Rattle.textures.proofs.Scans.{any_of_range}
use Rattle.textures.proofs.group.has_wrong.Goals as goal

pub returns : goal.returns
returns c =
    let a = c.args in
    any_from_yields_List (λ i. is_wrong_key (key_of a.s.now a.base i)) _ _ c.any.result c.any.ensures.ran (YieldsList-from_range 0 a.count a.count (cc) (omega arith)) (λ x b q k. search (rules, tests))
    ∙ any_of_range (λ i. is_wrong_key (key_of a.s.now a.base i)) a.count
