pub mod PairsState
pub mod ValidPairs
