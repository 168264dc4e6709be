pub mod Calls
pub mod Found
pub mod ImageVerdicts
pub mod Images
pub mod Layouts
pub mod Searches
pub mod Taken
