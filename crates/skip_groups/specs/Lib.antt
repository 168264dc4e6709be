pub mod Floors
pub mod GroupCells
pub mod GroupChanges
pub mod GroupParts
pub mod Groups
pub mod InsertPlaces
pub mod NewCells
pub mod Searches
