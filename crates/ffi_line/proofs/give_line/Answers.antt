-- `ffi_line::give_line` meets its contract. Assumes nothing.
use Rattle.ffi_line.proofs.Written.{given_by}
use Rattle.ffi_line.proofs.give_line.Goals as goal

pub returns : goal.returns
returns c = rw c.line_words-words.ensures (given_by c.args.out.now c.if-out-lt12.false _ _ _ _ _ _ _ _ _ _ _ _)
