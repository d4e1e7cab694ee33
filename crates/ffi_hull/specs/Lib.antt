-- What the contracts of `ffi_hull` cite.
pub mod Layout
pub mod Calls
