-- What the contracts of `ffi_textures` cite.
pub mod Calls
