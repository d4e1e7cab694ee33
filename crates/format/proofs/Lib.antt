-- Laws about the definitions of `format`, and what its proofs share.
pub mod Fields
pub mod Bytes
pub mod Twos
pub mod Codes
pub mod Places
pub mod Layouts
pub mod Steps
pub mod Chain
pub mod Same
pub mod Answers
pub mod Listing
pub mod Copies
