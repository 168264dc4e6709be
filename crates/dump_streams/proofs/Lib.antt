pub mod StepLemmas
pub mod PieceLemmas
pub mod NextTrees
pub mod Chains
pub mod DumpFronts
pub mod ReaderLemmas
pub mod DumpSteps
pub mod DumpRuns
pub mod ListedBlocks
mod LevelLemmas
pub mod ListedLemmas
pub mod TakenPairs
pub mod SpotLemmas
pub mod StepPieceLemmas
pub mod FileLemmas
pub mod FirstLemmas
pub mod AfterLemmas
pub mod TakeLemmas
mod TextSteps
pub mod ReadingSteps
mod ListingSteps
pub mod TakenLines
mod GatherSteps
mod RoomSteps
mod SourceSteps
pub mod DrainSteps
mod WrittenDumps
pub mod ReadDumps
