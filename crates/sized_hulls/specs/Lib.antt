-- What the contracts of `sized_hulls` cite, and Note 10 about hulls.
pub mod Sized
pub mod AnySizes
