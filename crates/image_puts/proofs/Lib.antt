pub mod PutStreams
pub mod PutTurns
pub mod StepRounds
pub mod BeginSteps
pub mod PutWords
