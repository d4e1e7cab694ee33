-- What the contract of `ffi_team` cites.
pub mod Calls
