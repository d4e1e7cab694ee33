-- For the contracts of functions that no other crate can name; a reader of the calls may leave this file out.
-- A file's bytes with a map record.
use Rattle.std.specs.Prelude.{ℕ, List}
use Rattle.format.specs.declared.section.BspData.{BspData}

pub record OfMap : Type 0 where
  pub file : List ℕ
  pub map : BspData
