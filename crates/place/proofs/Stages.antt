-- The steps with their places are the stages, one after another: each stage with those after it. The first, `from_header`, is `place_of`.
-- Assumes nothing.
use Prim.Native.Nat.{ℕ}
use mathlib.Core.Path.{◌≡◌, refl, ◌∙◌}
use mathlib.Core.List.{List}
use Rattle.place.specs.Place.{Located, place_of}
use Rattle.place.specs.Private.{from_extents, from_edges, from_collision_nodes, from_texinfo, from_vertices, from_planes, from_header}

pub stages : (s : List ℕ) → from_header s ≡ place_of s
unfolding place_of from_header from_planes from_vertices from_texinfo from_collision_nodes from_edges from_extents
stages s = refl

-- what is the first stage is the whole
pub by_stages : {x : Located} (s : List ℕ) → x ≡ from_header s → x ≡ place_of s
by_stages s e = e ∙ stages s
