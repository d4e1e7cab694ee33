-- What specs/ says, proved.
pub mod LeafWalk
pub mod Demand3
pub mod EveryFile
pub mod Refusals
pub mod Loading
pub mod StartedSolid
pub mod EntityText
