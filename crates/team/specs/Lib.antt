-- What the contracts of `team` cite.
pub mod Team
pub mod Starts
pub mod SideBySide
pub mod Pooled
