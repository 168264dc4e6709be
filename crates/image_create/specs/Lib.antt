pub mod Counts
pub mod Creates
pub mod Faults
pub mod FoundKeys
pub mod Ladder
pub mod Leading
