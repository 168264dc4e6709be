pub mod AnyDrawn
pub mod Drawn
pub mod Fronts
pub mod Lawful
