mod Steps
mod Waiting
mod ViewNames
mod ViewSteps
mod ViewSets
mod PassedSteps
mod ViewTrees
mod Seconds
pub mod Attributes
pub mod Memories
mod Counting
pub mod Brings
mod TakerSteps
mod BuildEnds
pub mod TakenAway
mod ViewedSteps
mod ViewedTrees
mod ViewedStream
