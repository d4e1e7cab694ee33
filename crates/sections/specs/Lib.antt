-- What the contracts of `sections` cite.
pub mod Position
pub mod Table
pub mod Records
pub mod Answers
