-- What the proofs of `ffi_walks`, `ffi_traces` and `ffi_entered` share.
pub mod Walked
