-- What holds of whole-line traces on every file that loads.
pub mod EveryLine
pub mod Trials
