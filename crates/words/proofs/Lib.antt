-- Laws about the definitions of `words`.
pub mod Giving
pub mod Maps
