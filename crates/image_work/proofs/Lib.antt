pub mod OpeningEnds
pub mod WorkEnds
