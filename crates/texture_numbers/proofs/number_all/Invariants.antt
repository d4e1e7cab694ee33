-- `texture_numbers::number_all` meets its contract: the textures so far have their numbers.
-- Assumes nothing.
use Rattle.std.specs.Prelude.{◌≡◌}
use Rattle.textures.specs.Count.{count}
use Rattle.texture_numbers.specs.Renumber.{has_none, leads, Partly}
use Rattle.texture_numbers.proofs.number_all.Given as goal

abbrev pub invariant-loop-i : goal.invariant-loop-i
invariant-loop-i l = record {
  partly : Partly l.initial.list l.i l.list;
  before : l.before ≡ count (has_none l.initial.list) l.i;
  firsts : l.firsts ≡ count (leads l.initial.list) l.i;
}
