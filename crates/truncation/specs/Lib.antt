pub mod Units
pub mod Boundaries
pub mod Moments
pub mod Truncations
pub mod Names
pub mod Times
pub mod Readings
