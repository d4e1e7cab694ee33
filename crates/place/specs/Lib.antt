-- What the contracts of `place` cite.
pub mod Stop
pub mod Part
pub mod Place
pub mod Private
pub mod EveryFile
pub mod Answers
