-- `put_file` meets its contract. Assumes nothing.
use Rattle.made.proofs.Whole.{file_is}
use Rattle.made.proofs.MadeOf.put_file.Goals as goal

pub returns : goal.returns
returns c = file_is c.args.self.seed c.args.self.nodes c.args.buffer.now _ _ _ _ _ _ _ c.requires
    c.put_front.ensures
    c.put_section.ensures
    c.put_words.ensures
    c.put_section-2.ensures
    c.put_section-3.ensures
    c.put_words-2.ensures
    c.put_words-3.ensures
