-- Laws about the numbers of all textures.
mod Numbering
mod Names
mod Listing
