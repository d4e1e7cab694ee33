-- What the contracts of `faces` cite.
pub mod Face
pub mod Extents
