-- The laws of a number field.
pub mod Reading
pub mod Fields
