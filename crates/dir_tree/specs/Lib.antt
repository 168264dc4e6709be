pub mod AttributeCalls
pub mod KindCalls
pub mod ListCalls
pub mod RefusalCalls
pub mod SubtreeCalls
pub mod MoveCalls
