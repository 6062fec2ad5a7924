pub mod Digits
pub mod Filing
pub mod Instants
pub mod Outcomes
pub mod Rows
pub mod Spelling
