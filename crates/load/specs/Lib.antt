-- What the contracts of `load` cite, and in `Private` what only proofs do.
pub mod Entities
pub mod Tested
pub mod Extents
pub mod Load
pub mod Private
pub mod Answers
