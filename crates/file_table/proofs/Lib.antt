-- The tables of trials, computed.
pub mod Acceptance
pub mod Places
pub mod Textures
