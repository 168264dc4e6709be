pub mod Leading
pub mod Syncing
pub mod Taken
pub mod Plans
