-- What the contracts of `texture_numbers` cite.
pub mod Numbers
pub mod Renumber
