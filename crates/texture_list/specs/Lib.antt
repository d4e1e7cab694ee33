-- What the contracts of `texture_list` cite.
pub mod Name
pub mod Key
pub mod List
pub mod Kind
pub mod Texture
