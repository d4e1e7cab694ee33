-- What specs/ says, proved.
pub mod Lines
pub mod Points
pub mod TreeSizes
pub mod BodySizes
pub mod SameCalls
pub mod MadeUp
pub mod Places
pub mod Refusals
-- what these rest on
mod Orders
