-- The trials of acceptance, of places and of textures.
pub mod Acceptance
pub mod Places
pub mod Textures
