-- For the contracts of functions that no other crate can name; a reader of the calls may leave this file out.
-- What Table.antt says of any numbers that pass a test, said of the textures of a kind in the section that starts at a base.
use Rattle.std.specs.Prelude.{ℕ, Bool, List}
use Rattle.texture_list.specs.Kind.{passing, starts, ends}
use Rattle.texture_list.specs.declared.kind.Kind.{Kind}
use Rattle.textures.specs.Table as Tab

abbrev pub Filled : List ℕ → ℕ → Kind → ℕ → ℕ → List ℕ → ℕ → Type 0
Filled s base kind = Tab.Filled (passing s base kind) (starts s base) (ends s base)

abbrev pub Marked : List ℕ → ℕ → Kind → List ℕ → ℕ → List ℕ → ℕ → Type 0
Marked s base kind = Tab.Marked (passing s base kind) (starts s base) (ends s base)

abbrev pub is_earliest : List ℕ → ℕ → Kind → ℕ → Bool
is_earliest s base kind = Tab.is_earliest (passing s base kind) (starts s base) (ends s base)

abbrev pub known_of : List ℕ → ℕ → Kind → ℕ → ℕ → ℕ
known_of s base kind = Tab.known_of (passing s base kind) (starts s base) (ends s base)

abbrev pub Known : List ℕ → ℕ → Kind → ℕ → ℕ → List ℕ → Type 0
Known s base kind = Tab.Known (passing s base kind) (starts s base) (ends s base)

abbrev pub Heads : List ℕ → ℕ → Kind → List ℕ → ℕ → ℕ → List ℕ → ℕ → Type 0
Heads s base kind = Tab.Heads (passing s base kind) (starts s base) (ends s base)
