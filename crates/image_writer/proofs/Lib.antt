pub mod Fills
pub mod LevelsPlaced
pub mod PlacedPages
pub mod Sealed
pub mod UpperPlaced
pub mod WholeImages
pub mod Written
