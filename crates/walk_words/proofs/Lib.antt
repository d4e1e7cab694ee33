-- A law about lists of seven words.
pub mod Sevens
