-- What the contracts of `models` cite.
pub mod Model
pub mod Text
