-- Many points from a root that passed the tree check.
pub mod EveryPoint
pub mod Trials
