-- What the contracts of `records` cite.
pub mod Access
pub mod Triple
pub mod Number
pub mod Plane
pub mod Node
pub mod Texinfo
pub mod Leaf
pub mod Edge
