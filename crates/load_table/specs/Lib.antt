-- The trials of the calls for C that load a file and answer its records, texts and textures.
pub mod Calls
