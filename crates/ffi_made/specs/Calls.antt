-- What the call says, and what it leaves in the two lent lists.
use Rattle.std.specs.Prelude.{ℕ, cond, List}
use Rattle.format.specs.Listed.{into}
use Rattle.words.specs.Words.{Left, left, enough, listed_in}
use Rattle.made.specs.File.{is_node_count, made_up}

-- the file in the buffer, and its length in `out`; 29 first of all
unfoldable pub bsp_made_up : ℕ → ℕ → List ℕ → List ℕ → Left
bsp_made_up seed nodes buffer out =
    cond (is_node_count nodes)
    (enough 1 out buffer out (listed_in (into (made_up seed nodes) buffer) out))
    (left 29 buffer out)
