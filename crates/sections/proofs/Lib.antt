-- Laws about sections, and what the proofs of loading share.
pub mod Chain
pub mod Loops
pub mod Plain
pub mod Bounded
pub mod Directory
pub mod Version
