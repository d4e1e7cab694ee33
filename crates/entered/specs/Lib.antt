-- What the contracts of `entered` cite.
pub mod Lists
pub mod Onward
pub mod Private
