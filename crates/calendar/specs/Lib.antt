pub mod Faults
pub mod DateTimes
pub mod Moves
pub mod Spans
pub mod Weeks
pub mod Texts
