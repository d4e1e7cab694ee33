-- Laws about the definitions of `vis`, and what its proofs share.
pub mod SetBits
pub mod Rows
pub mod RustLoop
pub mod Fits
pub mod Placed
pub mod Passes
pub mod Lists
pub mod Sections
mod MapTrials
