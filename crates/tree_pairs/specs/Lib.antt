pub mod Blocks
pub mod Kinds
pub mod TreeCalls
pub mod Counts
pub mod Fronts
pub mod Seen
pub mod ReaderCalls
