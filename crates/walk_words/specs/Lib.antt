-- What the contracts of `walk_words` cite.
pub mod Layout
