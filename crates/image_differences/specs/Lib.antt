pub mod Compared
pub mod Images
pub mod Timing
pub mod Told
pub mod Folders
pub mod Planning
