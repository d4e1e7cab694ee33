-- Laws about loading.
pub mod Untested
pub mod Stages
mod Texts
pub mod Passed
mod Textures
pub mod Sizes
mod Limits
pub mod Loads
