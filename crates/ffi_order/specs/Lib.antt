-- What the contracts of `ffi_order` cite.
pub mod Calls
pub mod Private
