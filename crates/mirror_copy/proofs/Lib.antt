mod Becoming
mod CompareLemmas
mod Mirroring
mod Rewriting
