pub mod FillLemmas
pub mod EntryLemmas
pub mod StepLemmas
mod FaultLemmas
pub mod MemoryLemmas
pub mod WalkLemmas
mod PackLemmas
mod TargetLemmas
