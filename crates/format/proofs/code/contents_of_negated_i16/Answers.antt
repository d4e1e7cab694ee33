-- `format::code::contents_of_negated_i16` meets its contract: the wider type agrees.
-- Assumes nothing.
use mathlib.Core.Path.{refl}
use native.Mathlib.Omega.{arith}
use lib.Dec.{lit<}
use lib.IntN.{ℤ, pos}
use lib.Signed.{lt_z}
use mir.Syntax.{w16, w32}
use mir.Val.{SFits}
use mir.Facts.{to_z-of_z}
use Rattle.format.proofs.Codes.{widths}
use Rattle.format.proofs.code.contents_of_negated_i16.Goals as goal

wider : (x : ℤ) → SFits w16 x → SFits w32 x
wider x f = record { sfits = omega (arith, f.sfits) }

pub returns : goal.returns
returns c = let f = c.ranges.x in
    rw (c.contents_of_negated_i32.ensures, to_z-of_z {w = w16} f) (simp (to_z-of_z {w = w32} (wider _ f)) (widths w32 w16 (lit< tt) (lit< tt) _ (wider _ f) f (lt_z c.args.x (pos 0)) refl))
