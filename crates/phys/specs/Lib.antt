-- What the contracts of `phys` cite.
pub mod Trace
