-- What was written is read back; a chain of nodes passes the tree check.
pub mod Fields
pub mod Sections
pub mod Chain
