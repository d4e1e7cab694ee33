-- Body sizes as words, and from words.
use Rattle.std.specs.Prelude.{ℕ, ◌+◌, List, ◌++◌}
use Rattle.words.specs.Words.{vector_words}
use Rattle.sizes.specs.Sizes.{bounds, body_sizes}
use Rattle.sizes.specs.declared.Bounds.{Bounds}
use Rattle.sizes.specs.declared.BodySizes.{BodySizes}
use Rattle.ffi_hull.specs.Layout.{vector_at}

-- how many words body sizes have
abbrev pub sizes_length : ℕ
sizes_length = 12

-- mins, then maxs
abbrev pub bounds_words : Bounds → List ℕ
bounds_words b = vector_words b.mins ++ vector_words b.maxs

-- those of hull 1, then those of hull 2
abbrev pub sizes_words : BodySizes → List ℕ
sizes_words z = bounds_words z.hull_1 ++ bounds_words z.hull_2

-- the same from words, as they stand
abbrev pub bounds_at : List ℕ → ℕ → Bounds
bounds_at ws at = bounds (vector_at ws at) (vector_at ws (at + 3))

abbrev pub sizes_from : List ℕ → BodySizes
sizes_from ws = body_sizes (bounds_at ws 0) (bounds_at ws 6)
