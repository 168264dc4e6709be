pub mod PlannedChanges
pub mod Carrying
