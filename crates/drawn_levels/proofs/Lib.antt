pub mod LevelLemmas
pub mod Places
pub mod RunLemmas
