-- Laws about the definitions of `team`, and what its proofs share.
pub mod Ranges
pub mod Cursors
pub mod Unions
pub mod Pools
pub mod Pooled
pub mod Asked
pub mod Found
mod TeamTrials
