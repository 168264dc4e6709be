pub mod Asking
pub mod Changing
pub mod Endings
pub mod Meanings
pub mod Telling
