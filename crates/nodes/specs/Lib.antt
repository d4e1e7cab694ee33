-- What the contracts of `nodes` cite.
pub mod Tables
pub mod Fast
pub mod Walks
pub mod Numbered
pub mod Owned
pub mod Lanes
pub mod Quick
pub mod Answers
