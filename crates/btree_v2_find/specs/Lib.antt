-- The definitions that the contracts of the crate cite; Sorted, what finding comes to in a tree in order; and Refusals, by what it is refused.
pub mod Find
pub mod Answers
pub mod Sorted
pub mod Refusals
pub mod Descending
