-- For the contracts of functions below the calls; a reader of the calls may leave this file out.
-- A name as the code holds it: its first byte, its frame, and the 14 bytes of its stem in two numbers of seven bytes each.
use Rattle.std.specs.Prelude.{ℕ, List, get_or, take, drop}
use Rattle.texture_list.specs.Name.{name_at, frame_of, stem_of, little_endian}
use Rattle.texture_list.specs.declared.kind.Key.{Key}

abbrev pub keyed : List ℕ → Key
keyed c = record {
  first = get_or c 0 0;
  frame = frame_of c;
  stem = record { start = little_endian (take 7 (stem_of c)); end = little_endian (drop 7 (stem_of c)) };
}

-- the key of the name at a position
unfoldable pub key_at : List ℕ → ℕ → Key
key_at s p = keyed (name_at s p)
