-- What the contracts of `ffi_math` cite.
pub mod TraceWords
pub mod FloatWords
