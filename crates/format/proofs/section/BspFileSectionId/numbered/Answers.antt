-- `numbered` meets its contract at the third section. Assumes nothing.
use native.Mathlib.Omega.{arith}
use Rattle.format.specs.Section.{section_numbered}
use Rattle.format.proofs.section.BspFileSectionId.numbered.Goals as goal

pub returns-in-2 : goal.returns-in-2
unfolding section_numbered
returns-in-2 c = grind arith
