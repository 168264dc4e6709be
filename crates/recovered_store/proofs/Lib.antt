mod Blocks
mod Filling
mod RecoveredImages
mod Attaching
pub mod BelowLemmas
