-- What the contracts of `float` cite.
pub mod Whole
pub mod Root
