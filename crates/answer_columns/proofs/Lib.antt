-- The laws of the table's answer.
pub mod Table
