-- The table of trials, computed.
pub mod Calls
