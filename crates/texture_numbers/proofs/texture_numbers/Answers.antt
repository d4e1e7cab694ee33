-- `texture_numbers::texture_numbers` meets its contract: a refusal is handed on.
-- Assumes nothing.
use Rattle.texture_numbers.proofs.Listing.{also_refused}
use Rattle.texture_numbers.proofs.texture_numbers.Goals as goal
use Rattle.format.proofs.Answers.{handed_on}

pub returns-in_err-count : goal.returns-in_err-count
returns-in_err-count c =
    let a = c.args in
    rw (handed_on c.from_residual.ensures.1) (also_refused a.file.now a.map a.list.now _ c.earliest_textures.new.list c.in_err-count.ensures)
