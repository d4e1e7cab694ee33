-- What the call says, and what it leaves in the two lent lists.
use Rattle.std.specs.Prelude.{ℕ, List}
use Rattle.format.specs.Listed.{into}
use Rattle.words.specs.Words.{Left, enough, listed_in, map_length, map_of}
use Rattle.team.specs.Team.{team_of}

-- the pooled leaves in the list, and their count in `out`
unfoldable pub bsp_pvs_team : List ℕ → List ℕ → List ℕ → ℕ → List ℕ → List ℕ → Left
bsp_pvs_team s map leaves count list out =
    enough map_length map list out (enough 1 out list out
    (listed_in (into (team_of s (map_of map) leaves count) list) out))
