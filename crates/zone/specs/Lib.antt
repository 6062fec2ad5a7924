pub mod Spans
pub mod Answers
pub mod Places
pub mod Tables
pub mod Filling
pub mod TableLaws
