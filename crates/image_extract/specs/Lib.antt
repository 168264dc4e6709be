pub mod Extracts
pub mod Faults
pub mod Lookups
pub mod Times
