-- What specs/ says, proved.
pub mod Refusals
pub mod EveryCall
pub mod StartedSolid
pub mod Rota
-- what these rest on, and `served_requests`
pub mod Statuses
