-- `textures::frame::at_place` meets its contract: so many of the group have an earlier letter.
-- Assumes nothing.
use Rattle.std.specs.Prelude.{◌≡◌, ◌+◌, ◌&&◌, ltb}
use Rattle.textures.specs.Count as C
use Rattle.texture_list.specs.Kind.{grouped, frames}
use Rattle.textures.specs.Private.{first_letter}
use Rattle.textures.proofs.frame.at_place.Given as goal

abbrev pub invariant-loop-letter : goal.invariant-loop-letter
invariant-loop-letter l = C.count (λ k. grouped (first_letter l.fn.group) l.s l.base l.stem.start l.stem.end k && ltb (frames l.s l.base k) l.letter) l.count + l.left ≡ l.place
