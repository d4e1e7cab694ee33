-- What the proofs of `points` rest on.
mod Lists
mod Bits
mod Eights
mod Meeting
mod Single
mod Swift
mod Downward
mod Fewer
mod Pairs
mod Halving
pub mod Finished
-- what the calls for C rest on
pub mod Opening
