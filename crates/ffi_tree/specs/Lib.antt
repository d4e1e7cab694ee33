-- What the contract of `ffi_tree` cites.
pub mod Calls
