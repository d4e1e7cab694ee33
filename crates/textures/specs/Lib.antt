-- What the contracts of `textures` cite.
pub mod Count
pub mod Group
pub mod Section
pub mod Table
pub mod Stems
pub mod Sieve
pub mod Access
pub mod Private
