-- The laws of the crate's definitions: Lists and Numbers serve the crates above too.
pub mod Lists
pub mod Copying
pub mod Least
pub mod Numbers
pub mod Reading
pub mod Writing
pub mod Standing
pub mod Filling
