-- What is said at once is what is asked.
pub mod Found
