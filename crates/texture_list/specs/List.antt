-- The list of textures in the texture section, in the order of load.rs: the offsets (1, 10), then the header of each texture that is there (13, 1); the
-- names by their numbers in the file.
use Rattle.std.specs.Prelude.{Option, Some, None, ℕ, zero, suc, ◌+◌, ◌*◌, ◌-◌, ◌/◌, min, cond, List, length}
use Rattle.format.specs.Step.{Step, ok, refused, and_then}
use Rattle.format.specs.Field.{u32_at}
use Rattle.records.specs.Number.{offset_at}
use Rattle.sections.specs.Records.{records}
use Rattle.texture_list.specs.Name.{name_at, nameless, is_ascii}

-- where reading so many bytes stops, after a seek (`take(size).read_to_end`): at the file's end at the latest, or where the seek went past it
unfoldable pub stop_of : List ℕ → ℕ → ℕ → ℕ
stop_of s at size = at + min size (length s - at)

-- what follows the height of a texture's header: the four offsets of its pictures, from the header's start. Only where reading the fourth,
-- whose sides are an eighth, stops is of use.
unfoldable pub pictures_at : ℕ → ℕ → List ℕ → ℕ → ℕ → Step (Unit {0})
pictures_at width height s start at =
    and_then (u32_at s at) (λ first p.
    and_then (u32_at s p) (λ second q.
    and_then (u32_at s q) (λ third t.
    and_then (u32_at s t) (λ fourth next.
    ok tt (stop_of s (start + fourth) ((width / 8) * (height / 8)))))))

-- one texture (`load_texture`): where reading it stops
unfoldable pub texture_at : List ℕ → ℕ → Step (Unit {0})
texture_at s at =
    cond (is_ascii s at 16)
    (and_then (u32_at s (at + 16)) (λ width p.
    and_then (u32_at s p) (λ height q.
    pictures_at width height s at q)))
    (refused 13)

-- a texture that is absent reads nothing, so that reading stays where it was
abbrev pub present_at : List ℕ → ℕ → ℕ → Option ℕ → Step (Unit {0})
present_at s base end None = ok tt end
present_at s base end (Some offset) = texture_at s (base + offset)

-- the texture whose offset stands at a position
unfoldable pub listed_at : List ℕ → ℕ → ℕ → ℕ → Step (Unit {0})
listed_at s base at end = and_then (offset_at s at) (λ offset p. present_at s base end offset)

-- so many textures, from that one on
unfoldable pub listed : List ℕ → ℕ → ℕ → ℕ → ℕ → Step (Unit {0})
listed s base zero at end = ok tt end
listed s base (suc n) at end = and_then (listed_at s base at end) (λ u q. listed s base n (at + 4) q)

-- n textures of the section that starts at `base`: all their offsets, and then the textures
unfoldable pub textures_at : List ℕ → ℕ → ℕ → Step (Unit {0})
textures_at s base n =
    and_then (records offset_at s n (base + 4)) (λ u p.
    listed s base n (base + 4) p)

-- the name of a texture by its offset
abbrev pub name_of : List ℕ → ℕ → Step (Option ℕ) → List ℕ
name_of s base (ok None p) = nameless
name_of s base (ok (Some offset) p) = name_at s (base + offset)
name_of s base (refused n) = nameless

-- the names of the section's textures, by their numbers in the file
unfoldable pub names_of : List ℕ → ℕ → ℕ → List ℕ
names_of s base i = name_of s base (offset_at s (base + 4 + 4 * i))
