-- Laws about the place where loading refuses.
mod Stops
pub mod EveryFile
pub mod Stages
