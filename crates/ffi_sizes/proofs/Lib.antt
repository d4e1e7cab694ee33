-- That a file's sizes come to the hull.
pub mod FromFile
