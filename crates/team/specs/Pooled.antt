-- Note 9's text: what fixes the pooled list.
use Rattle.std.specs.Prelude.{◌≡◌, ℕ, suc, ◌<◌, true, List, length, get_or}
use Rattle.format.specs.Answer.{answer}
use Rattle.format.specs.declared.section.BspData.{BspData}
use Rattle.vis.specs.Pvs.{pvs_of}
use Rattle.team.specs.Team.{holds, team_of}

-- each entry is below the next
abbrev pub Increasing : List ℕ → Type 0
Increasing xs = (i : ℕ) → suc i < length xs → get_or xs i 0 < get_or xs (suc i) 0

-- a player whose visibility list holds the leaf k
pub record SeenBy (file : List ℕ) (map : BspData) (leaves : List ℕ) (count k : ℕ) : Type 0 where
  pub player : ℕ
  pub list : List ℕ
  pub among : player < length leaves
  pub sees : answer list ≡ pvs_of file map (get_or leaves player 0) count
  pub held : holds k list ≡ true

-- the pooled list is strictly increasing and holds a leaf exactly if one of the players' lists does
pub record Pooled (file : List ℕ) (map : BspData) (leaves : List ℕ) (count : ℕ) (xs : List ℕ) : Type 0 where
  pub increasing : Increasing xs
  pub only : (k : ℕ) → holds k xs ≡ true → SeenBy file map leaves count k
  pub all : (k : ℕ) → SeenBy file map leaves count k → holds k xs ≡ true

-- for every file and map record, and there is one such list only
abbrev pub EveryTeam : Type 0
EveryTeam = (file : List ℕ) (map : BspData) (leaves : List ℕ) (count : ℕ) (xs : List ℕ) → answer xs ≡ team_of file map leaves count → Pooled file map leaves count xs

abbrev pub OneList : Type 0
OneList = (file : List ℕ) (map : BspData) (leaves : List ℕ) (count : ℕ) (xs ys : List ℕ) → Pooled file map leaves count xs → Pooled file map leaves count ys → xs ≡ ys
