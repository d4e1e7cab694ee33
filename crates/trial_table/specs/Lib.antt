-- The trials of document 01 that are proved.
pub mod Trials
