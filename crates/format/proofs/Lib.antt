-- The laws of the format's definitions, and trials of the fields of nodes.
pub mod Lengths
pub mod Fields
pub mod HeaderLengths
pub mod Trials
