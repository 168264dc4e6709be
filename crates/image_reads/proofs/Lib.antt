pub mod Readings
pub mod Opened
pub mod FileLemmas
pub mod CutOff
pub mod ReadParts
pub mod Unchanged
pub mod ListedParts
pub mod Handed
