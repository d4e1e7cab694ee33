-- The trials of the calls for C that ask a hull.
pub mod Calls
