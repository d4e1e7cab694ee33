-- What holds of the calls for C.
pub mod Cited
pub mod NamedWords
pub mod Refusals
pub mod EveryCall
pub mod StartedSolid
pub mod Rota
