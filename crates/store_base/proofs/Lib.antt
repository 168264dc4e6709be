pub mod SlotsCalls
pub mod Orders
pub mod ByteOrder
pub mod LabelBytes
pub mod HeaderBytes
