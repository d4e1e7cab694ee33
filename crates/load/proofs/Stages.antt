-- Loading is its stages, one after another. Assumes nothing.
use Prim.Native.Nat.{ℕ}
use mathlib.Core.Path.{◌≡◌, refl}
use mathlib.Core.List.{List}
use Rattle.load.specs.Load.{load_at}
use Rattle.load.specs.Private.{from_extents, from_edges, from_collision_nodes, from_texinfo, from_vertices, from_planes, from_header}

pub stages : (s : List ℕ) → from_header s ≡ load_at s
unfolding load_at from_header from_planes from_vertices from_texinfo from_collision_nodes from_edges from_extents
stages s = refl
