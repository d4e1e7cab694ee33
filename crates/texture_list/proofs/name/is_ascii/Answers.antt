-- `texture_list::name::is_ascii` meets its contract: the bytes up to the first zero are below 128.
-- Assumes nothing.
use Rattle.std.specs.Prelude.{ℕ, not, eqb, ltb}
use Rattle.std.proofs.Common.{rules, ◌∙◌}
use Rattle.std.proofs.lemmas.Iterator.{YieldsList-from_slice, YieldsList-from_take}
use Rattle.std.proofs.lemmas.Iterator.Adapters.{YieldsList-from_skip}
use Rattle.std.proofs.lemmas.Iterator.Search.{YieldsList-from_take_while, all_from_yields_List}
use Rattle.texture_list.proofs.Names.{ascii_is}
use Rattle.texture_list.proofs.name.is_ascii.Goals as goal

pub returns : goal.returns
returns c =
    all_from_yields_List (λ (b : ℕ). ltb b 128) _ _ c.all.result c.all.ensures.ran
    (YieldsList-from_take_while _ (λ (b : ℕ). not (eqb b 0))
    (YieldsList-from_take 16 (YieldsList-from_skip c.args.at (YieldsList-from_slice c.args.s.now (cc)) (cc)) (cc))
    (cc) (cc) (λ x b q k. search rules))
    (λ x b q k. search rules)
    ∙ ascii_is c.args.s.now 16 c.args.at
