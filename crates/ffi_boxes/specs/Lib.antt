-- What the contracts of `ffi_boxes` cite.
pub mod Calls
