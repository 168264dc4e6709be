pub mod Conditions
pub mod Examples
pub mod Layouts
pub mod Pages
