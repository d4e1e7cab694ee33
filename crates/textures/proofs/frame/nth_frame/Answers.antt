-- `textures::frame::nth_frame` meets its contract: the test asks for the frame and the stem.
-- Assumes nothing.
use Rattle.std.proofs.Common.{rules, tests}
use Rattle.texture_list.specs.Kind.{framed}
use Rattle.textures.proofs.frame.nth_frame.Goals as goal

pub returns : goal.returns
returns c = let a = c.args in c.nth_such.ensures (framed a.s.now a.base a.stem.start a.stem.end a.letter) (λ i r h e. search (rules, tests))
