-- Laws about the definitions of `sizes`.
mod Rows
mod Directions
pub mod Files
