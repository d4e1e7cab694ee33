-- What the proofs of `ffi_order` rest on.
mod Laws
