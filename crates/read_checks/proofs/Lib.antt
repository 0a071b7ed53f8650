-- The laws of the shared tests: the crates above cite them too.
pub mod Base
pub mod Checks
pub mod Passing
pub mod Plain
pub mod Root
