pub mod ReplyLemmas
pub mod StepLemmas
