-- Laws about the definitions of `models`, and what its proofs share.
pub mod Models
pub mod Texts
pub mod ModelLayout
