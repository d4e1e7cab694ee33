-- Fields as bytes.
pub mod Bytes
