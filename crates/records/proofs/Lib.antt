-- Laws about the definitions of `records`, and what its proofs share.
pub mod Readable
pub mod Agree
pub mod RecordLayouts
