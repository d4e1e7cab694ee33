-- `textures::number::earliest_like` meets its contract: the library's `find` gives the lowest number that passes.
-- Assumes nothing.
use Rattle.std.specs.Prelude.{ℕ, Bool, ◌≡◌, true, false, ◌&&◌, eqb}
use Rattle.std.proofs.Common.{rules, tests}
use Rattle.std.proofs.lemmas.Iterator.{first_from_Range}
use Rattle.texture_list.specs.Kind.{passing, starts, ends}
use Rattle.texture_list.specs.declared.kind.Kind.TheVariants.{Animated}
use Rattle.textures.proofs.Numbers.{found_lowest}
use Rattle.textures.proofs.number.earliest_like.Goals as goal

pub returns : goal.returns
returns c =
    let x = c.args in
    let p : ℕ → Bool = λ j. passing x.s.now x.base Animated j && (eqb x.stem.start (starts x.s.now x.base j) && eqb x.stem.end (ends x.s.now x.base j)) in
    let found = first_from_Range _ _ _ _ (λ i. p i ≡ true) (λ i. p i ≡ false) c.find.ensures.ran (λ i q k. search (rules, tests)) (λ i q k. search (rules, tests)) in
    rw c.unwrap_or.ensures (found_lowest p x.upto c.find.result found)
