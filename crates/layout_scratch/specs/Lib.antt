pub mod Counting
pub mod Faults
pub mod Layouts
pub mod Levels
pub mod Ranks
pub mod Sorting
