-- What specs/ says, proved.
pub mod EveryLine
pub mod Trials
