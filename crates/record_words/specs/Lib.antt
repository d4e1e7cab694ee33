-- What the contracts of `record_words` cite.
pub mod Layout
