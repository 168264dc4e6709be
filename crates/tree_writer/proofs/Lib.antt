pub mod PairLists
pub mod PairSteps
pub mod ToldPairs
pub mod NextPairs
pub mod TakenSteps
pub mod Ended
