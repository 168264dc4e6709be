pub mod Ends
pub mod OpenPages
pub mod Raised
pub mod FreePlaces
pub mod Kept
