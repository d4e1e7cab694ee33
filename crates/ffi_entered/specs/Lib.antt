-- What the contracts of `ffi_entered` cite.
pub mod Calls
