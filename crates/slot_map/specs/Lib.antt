pub mod Contents
pub mod MapCalls
pub mod Pictures
