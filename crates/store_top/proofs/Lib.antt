pub mod UncalledLemmas
pub mod UpgradeEnds
