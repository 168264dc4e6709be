pub mod BelowDisks
pub mod SlotsDisks
pub mod RecoveredDisks
pub mod RecoveredStores
