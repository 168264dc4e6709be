pub mod Ends
pub mod FreeLemmas
pub mod Keeping
pub mod MoreCells
pub mod OpenPages
pub mod RaisedLevels
pub mod RaisedPairs
