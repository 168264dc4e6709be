pub mod CutLemmas
pub mod ExampleLemmas
pub mod GroupLemmas
pub mod HeldLemmas
pub mod LawLemmas
pub mod RunLemmas
pub mod SameLemmas
