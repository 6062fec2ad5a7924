pub mod Tables
pub mod Minutes
