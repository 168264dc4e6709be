pub mod Outcomes
pub mod Words
pub mod PathChanges
pub mod Removals
pub mod Moves
pub mod Ways
