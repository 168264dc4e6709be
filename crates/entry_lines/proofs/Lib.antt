mod AttributeFolds
mod ToldEntries
mod ListerSteps
pub mod ShownLines
