pub mod PlaceOrder
pub mod DumpPlaces
pub mod Telling
pub mod Marking
pub mod MarkLists
pub mod Advancing
pub mod LastMark
pub mod Merging
pub mod Searching
pub mod TakenAdditions
pub mod Written
pub mod Removing
pub mod EqualTrees
pub mod SideSteps
pub mod KeepingSteps
pub mod Counting
mod Causing
