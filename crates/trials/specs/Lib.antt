-- Where the parts of a stored case lie.
pub mod Sample
pub mod Prefix
