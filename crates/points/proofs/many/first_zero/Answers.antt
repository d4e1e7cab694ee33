-- `first_zero` meets its contract: what the library finds.
-- Assumes nothing.
use Rattle.std.proofs.Common.{◌==◌, ◌∙◌, rules, tests}
use Rattle.std.proofs.lemmas.Iterator.{YieldsList-from_slice}
use Rattle.std.proofs.lemmas.Iterator.Search.{position_from_yields_List}
use Rattle.points.proofs.Lists.{zero_found}
use Rattle.points.proofs.many.first_zero.Goals as goal

pub returns : goal.returns
returns c =
    let s = c.args.bytes.now in
    c.unwrap_or.ensures
    ∙ zero_found s _ (position_from_yields_List (λ b. b == 0) _ _ c.position.result c.position.ensures.ran (YieldsList-from_slice s (cc)) (λ x b q k. search (rules, tests)))
