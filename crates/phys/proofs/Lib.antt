-- Laws about the definitions of `phys`.
pub mod StartedSolid
