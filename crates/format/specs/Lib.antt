-- What the contracts of `format` cite.
pub mod Answer
pub mod Refusal
pub mod Contents
pub mod Step
pub mod Field
pub mod Code
pub mod Section
pub mod Layout
pub mod Listed
pub mod Answers
