-- `textures::group::has_lone` meets its contract: a part at a time
-- Assumes nothing.
use Rattle.std.proofs.Common.{◌≡◌, length, refl, sym, ◌∙◌, arith}
use Rattle.std.proofs.Math.ListN.{take, length-take}
use Rattle.textures.specs.Count.{any}
use Rattle.texture_list.specs.Kind.{passing, starts, ends}
use Rattle.texture_list.specs.declared.kind.Kind.TheVariants.{Primary, Alternate}
use Rattle.textures.proofs.Alone.{none_lone, one_lone}
use Rattle.textures.proofs.Sieves.{sieved_by_none}
use Rattle.textures.proofs.group.has_lone.Goals.{After-fill-filling}
use Rattle.textures.proofs.group.has_lone.Goals as goal

-- the marks are as many as the nodes
marks_are : (c : After-fill-filling) → length (take c.fill-filling.result.nodes c.loop-from.marks) ≡ c.fill-filling.result.nodes
marks_are c = let f = c.fill-filling in omega (arith, length-take f.result.nodes c.loop-from.marks, f.ensures.0.table.room, c.args.table.now.four_words_each)

pub loop-from-init : goal.loop-from-init
unfolding any
loop-from-init c = (refl, omega arith)

pub mark-requires : goal.mark-requires
mark-requires c = let f = c.fill-filling in rw (marks_are (goal.at.mark-requires c).After-fill-filling) (f.ensures.0.table, sieved_by_none f.new.t f.result.nodes)

pub returns-then-has_unmarked : goal.returns-then-has_unmarked
returns-then-has_unmarked c =
    let a = c.args in
    let f = c.fill-filling in
    let e = marks_are (goal.at.returns-then-has_unmarked c).After-fill-filling in
    sym
    (one_lone (passing a.s.now a.base Alternate) (passing a.s.now a.base Primary) (starts a.s.now a.base) (ends a.s.now a.base) a.count f.new.t f.result.nodes c.mark.new.marks
    (rw e at c.mark.ensures) _ _ f.ensures.0 f.ensures.1.1 (rw (c.mark.auto.marks, e) at (sym c.has_unmarked.ensures ∙ c.if-has_unmarked.true)))

pub loop-from-preserved : goal.loop-from-preserved
loop-from-preserved c =
    let a = c.args in
    let f = c.fill-filling in
    let e = marks_are (goal.at.loop-from-preserved c).After-fill-filling in (
      none_lone (passing a.s.now a.base Alternate) (passing a.s.now a.base Primary) (starts a.s.now a.base) (ends a.s.now a.base) a.count f.new.t f.result.nodes c.mark.new.marks
          (rw e at c.mark.ensures) _ _ f.ensures.0 (rw (c.mark.auto.marks, e) at (sym c.has_unmarked.ensures ∙ c.if-has_unmarked.false)) c.loop-from.invariant.0,
      f.ensures.1.1,
    )
