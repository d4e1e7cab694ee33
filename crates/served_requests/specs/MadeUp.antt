-- Request 14 at the calls that a server makes: every file that bsp_made_up wrote is loaded by bsp_load and accepted by bsp_accept, whatever the seed and the
-- node count. proofs/MadeUp.antt proves `EveryMadeUp`; made_loads/specs/EveryMap.antt says it of the definitions, and what else holds of such a map.
use Rattle.std.specs.Prelude.{ℕ, ◌≤◌, List, ◌≡◌, length, take}
use Rattle.ffi_made.specs.Calls.{bsp_made_up}
use Rattle.words.specs.Words.{Left}
use Rattle.served.specs.Cited.{bsp_load, bsp_accept}
use Rattle.served.specs.NamedWords.{word, map_length}
use Rattle.served.specs.EveryCall.{map_written}

-- the file at the front of the buffer, as long as `out` says
abbrev pub file_in : Left → List ℕ
file_in l = take (word 0 l.out) l.list

pub record Plays (nodes : ℕ) (s : List ℕ) : Type 0 where
  -- it loads, with room for the map words
  pub loads : (lent : List ℕ) → map_length ≤ length lent → (bsp_load s lent).status ≡ 0
  -- and is accepted on these, with a mark for each node
  pub accepted : (lent marks : List ℕ) → map_length ≤ length lent → nodes ≤ length marks → (bsp_accept s (map_written s lent) marks).status ≡ 0

abbrev pub EveryMadeUp : Type 0
EveryMadeUp = (seed nodes : ℕ) (buffer out : List ℕ) → (bsp_made_up seed nodes buffer out).status ≡ 0 → Plays nodes (file_in (bsp_made_up seed nodes buffer out))
