-- What the contract of `ffi_vis` cites.
pub mod Calls
