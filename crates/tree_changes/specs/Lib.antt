pub mod Conditional
pub mod Meant
pub mod Removals
pub mod Folders
pub mod Moves
pub mod AttributeChanges
pub mod Puts
