-- `textures::group::has_unmarked` meets its contract: it asks each node's mark, from the first node on.
-- Assumes nothing.
use Rattle.std.specs.Prelude.{eqb}
use Rattle.std.proofs.Common.{◌∙◌, rules, tests}
use Rattle.std.proofs.lemmas.Iterator.{YieldsList-from_slice}
use Rattle.std.proofs.lemmas.Iterator.Adapters.{YieldsList-from_skip}
use Rattle.std.proofs.lemmas.Iterator.Search.{any_from_yields_List}
use Rattle.textures.proofs.Scans.{any_of_marks}
use Rattle.textures.proofs.group.has_unmarked.Goals as goal

pub returns : goal.returns
returns c =
    let marks = c.args.marks.now in
    any_from_yields_List (λ m. eqb m 0) _ _ c.any.result c.any.ensures.ran (YieldsList-from_skip 1 (YieldsList-from_slice marks (cc)) (cc)) (λ x b q k. search (rules, tests))
    ∙ any_of_marks marks
