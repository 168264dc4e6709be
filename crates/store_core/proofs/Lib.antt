pub mod OpeningCosts
pub mod OpeningLemmas
pub mod StoreSteps
pub mod UpgradeStores
pub mod WalkSteps
