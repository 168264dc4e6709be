pub mod Entries
pub mod Lines
pub mod Listers
pub mod Listings
