-- `format::code::contents_of_negated_i32` meets its contract, by the distance of the number from 0.
-- Assumes nothing.
use mathlib.Core.Path.{sym, ◌∙◌, ap}
use lib.Dec.{lit<}
use mir.Syntax.{w32}
use mir.Facts.{to_z-of_z}
use Rattle.format.specs.Code.{contents_of}
use Rattle.format.proofs.Codes.{abs_is, below, above}
use Rattle.format.proofs.code.contents_of_negated_i32.Goals as goal

pub returns-then-x-lt0 : goal.returns-then-x-lt0
returns-then-x-lt0 c =
    let here = to_z-of_z {w = w32} c.ranges.x in
    let less = rw here at c.if-x-lt0.true in
    let far = rw here at c.unsigned_abs.ensures.value in
    c.contents_of.ensures ∙ ap contents_of (far ∙ abs_is c.args.x less) ∙ sym (below w32 (lit< tt) _ c.ranges.x less)

pub returns : goal.returns
returns c = sym (above w32 (lit< tt) _ c.ranges.x (rw (to_z-of_z {w = w32} c.ranges.x) at c.if-x-lt0.false))
