-- What holds of hulls whatever the body sizes.
pub mod AnySizes
