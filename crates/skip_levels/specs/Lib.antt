pub mod Descent
pub mod ListState
pub mod NextSearch
pub mod PagePairs
pub mod PairChanges
pub mod PutPlaces
pub mod SearchPath
pub mod CellChanges
