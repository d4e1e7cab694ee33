-- Laws about the definitions of `report`, and trials of them.
pub mod Decimals
pub mod Lines
pub mod Trials
