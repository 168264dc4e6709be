pub mod Faults
pub mod Pairs
pub mod Told
pub mod Writing
