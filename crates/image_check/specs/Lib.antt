pub mod Contents
pub mod Faults
pub mod ImageCalls
pub mod Orders
pub mod SlotCalls
pub mod Standing
pub mod TreePairs
pub mod Verdicts
