-- Laws about the tables and their readers.
mod Numbers
mod Places
mod Sections
mod Clips
mod Renders
mod Planes
mod Leaves
mod Readers
mod Wholes
pub mod Entering
mod Making
mod Stepping
mod Beside
mod Eights
mod Quicks
mod AnyTables
pub mod Equal
pub mod Ends
mod Handed
mod LeafCodes
pub mod Numbering
pub mod QuickTables
pub mod Owning
