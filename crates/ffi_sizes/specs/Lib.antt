-- What the contracts of `ffi_sizes` cite, and that a file's sizes come to the hull.
pub mod Layout
pub mod Calls
pub mod FromFile
