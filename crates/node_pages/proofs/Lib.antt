mod Answered
pub mod CellInserts
pub mod EntryLemmas
pub mod Joined
pub mod PackedLists
pub mod PlaceLemmas
pub mod Runs
pub mod CellLists
pub mod CellBytes
pub mod Filled
pub mod Inserted
pub mod Packed
pub mod PageBytes
