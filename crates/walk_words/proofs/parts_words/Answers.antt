-- `walk_words::parts_words` meets its contract. Assumes nothing.
use mathlib.Core.Path.{◌≡◌, refl}
use lib.ListN.{length}
use Rattle.std.proofs.Common.{rules}
use Rattle.walk_words.proofs.Sevens.{by_places}
use Rattle.walk_words.proofs.parts_words.Goals as goal

pub returns : goal.returns
returns c =
    let h : length c.args.kind ≡ 7 = search rules in
    rw (c.code.ensures, c.flag_word.ensures, c.float_word.ensures, c.float_word-2.ensures, c.float_word-3.ensures, c.float_word-4.ensures, c.float_word-5.ensures, c.float_word-6.ensures, c.float_word-7.ensures, ← by_places c.args.kind h) refl
