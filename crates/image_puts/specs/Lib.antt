pub mod PutChanges
pub mod Puts
