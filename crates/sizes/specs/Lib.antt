-- What the contracts of `sizes` cite, and Note 10 in both directions.
pub mod Sizes
pub mod Files
