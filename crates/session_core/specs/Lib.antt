pub mod Machine
pub mod Noted
pub mod SessionCalls
pub mod SessionState
pub mod SessionSteps
pub mod Traces
