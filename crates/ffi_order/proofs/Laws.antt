-- A walk or a trace over a lent table goes by the planes alone: what is left out of the map record does not change it. Assumes nothing.
use Prim.Native.Nat.{ℕ}
use mathlib.Core.Path.{◌≡◌, refl, sym, ap, ◌∙◌}
use mathlib.Core.List.{List}
use lib.IntN.{ℤ}
use Rattle.format.specs.declared.contents.BspLeafContents.{BspLeafContents}
use Rattle.math.specs.Vector.{vector, zero32}
use Rattle.math.specs.declared.vector.Vector3.{Vector3}
use Rattle.walk.specs.Table.{Table}
use Rattle.walk.specs.Ordered.{ordered}
use Rattle.words.specs.Words.{map_of}
use Rattle.nodes.specs.Fast as Fast
use Rattle.nodes.specs.Fast.{tables_of}
use Rattle.nodes.specs.Tables.{End}
use Rattle.nodes.specs.declared.table.HullTable.TheVariants.{Clip}
use Rattle.nodes.proofs.Equal.{table_is}
use Rattle.ordered.specs.Same.{file_rows}
use Rattle.ffi_order.specs.Private.{planes_map}

abbrev none : Vector3
none = vector zero32 zero32 zero32

module _ (s ws : List ℕ) (list : List ℤ) where
  pub same_rows : file_rows s (planes_map ws) list ≡ file_rows s (map_of ws) list
  unfolding file_rows Fast.plane_of_index
  same_rows =
      sym (ap (λ (T : Table End BspLeafContents). ordered T list) (table_is s (planes_map ws) none none Clip))
      ∙ planes_same
      ∙ ap (λ (T : Table End BspLeafContents). ordered T list) (table_is s (map_of ws) none none Clip)
    where
      planes_same : ordered (Fast.table s (tables_of (planes_map ws) Clip none none)) list ≡ ordered (Fast.table s (tables_of (map_of ws) Clip none none)) list
      planes_same = refl
