-- An entity text that is too long is refused with 8, whatever its bytes are (specs/EntityText.antt says it). Assumes nothing.
use Rattle.load.specs.Entities.{entities}
use Rattle.loaded.specs.EntityText.{TooLongFirst}

pub too_long_first : TooLongFirst
unfolding entities
too_long_first s z e = simp e
