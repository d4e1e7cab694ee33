-- What the contracts of `tree` cite, what laws ask of a file's tables, and note 8's number of nodes.
pub mod Check
pub mod Readable
pub mod Size
