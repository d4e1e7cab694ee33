-- What the tree check says, and what it leaves in the marks and in the lent list.
use Rattle.std.specs.Prelude.{ℕ, List, Option, Some, None}
use Rattle.format.specs.Answer.{mapped}
use Rattle.words.specs.Words.{given, Left, left, enough, beside, number_words, map_length, map_of}
use Rattle.walk.specs.TreeCheck.{Checked, tree_check}
use Rattle.nodes.specs.Tables.{nodes_of, table_numbered}
use Rattle.nodes.specs.declared.table.HullTable.{HullTable}

-- the marks as the check leaves them, and the height in `out`
abbrev pub checked_in : Checked → List ℕ → Left
checked_in k out = beside k.marks (given (mapped number_words k.answer) out)

abbrev pub check_of : Option HullTable → List ℕ → List ℕ → ℕ → List ℕ → List ℕ → Left
check_of (Some t) s map root marks out = checked_in (tree_check (nodes_of s (map_of map) t) marks root) out
check_of None s map root marks out = left 20 marks out

unfoldable pub bsp_tree_check : List ℕ → List ℕ → ℕ → ℕ → List ℕ → List ℕ → Left
bsp_tree_check s map table root marks out =
    enough map_length map marks out (enough 1 out marks out
    (check_of (table_numbered table) s map root marks out))
