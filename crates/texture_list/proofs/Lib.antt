-- Laws about the list of textures.
mod Names
mod Offsets
mod Walk
mod Reading
mod Digits
pub mod Keys
