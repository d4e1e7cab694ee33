-- Laws about the definitions of `faces`, and what its proofs share.
pub mod Spans
pub mod FaceLayout
pub mod FaceLaws
pub mod Zeros
pub mod ExtentZeros
