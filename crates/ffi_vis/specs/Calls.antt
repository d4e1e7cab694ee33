-- What the visibility call says, and what it leaves in the two lent lists.
use Rattle.std.specs.Prelude.{ℕ, List}
use Rattle.format.specs.Listed.{into}
use Rattle.words.specs.Words.{Left, enough, listed_in, map_length, map_of}
use Rattle.vis.specs.Pvs.{pvs_of}

-- the leaves in the list, and their count in `out`
unfoldable pub bsp_pvs : List ℕ → List ℕ → ℕ → ℕ → List ℕ → List ℕ → Left
bsp_pvs s map leaf count list out =
    enough map_length map list out (enough 1 out list out
    (listed_in (into (pvs_of s (map_of map) leaf count) list) out))
