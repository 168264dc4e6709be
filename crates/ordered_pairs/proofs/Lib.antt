pub mod ValidLemmas
