pub mod LineLemmas
pub mod PairLemmas
pub mod RequestLemmas
pub mod SingleWords
pub mod Subcommands
pub mod TakenLines
pub mod ValueLemmas
pub mod WalkLemmas
