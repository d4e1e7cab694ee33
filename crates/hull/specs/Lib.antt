-- What the contracts of `hull` cite, and note 8 about the hull's record.
pub mod Hull
pub mod Traces
pub mod Sizes
