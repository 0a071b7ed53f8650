-- The definitions that the writer's and the readers' contracts cite.
pub mod Bytes
pub mod Fields
pub mod Fit
pub mod Request
