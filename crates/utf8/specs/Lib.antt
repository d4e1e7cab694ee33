-- What the contracts of `utf8` cite.
pub mod Unicode
