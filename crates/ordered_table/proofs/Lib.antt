pub mod Reading
pub mod Ordering
pub mod Searching
pub mod Inserting
pub mod InsertCalls
pub mod Settling
pub mod Overwriting
