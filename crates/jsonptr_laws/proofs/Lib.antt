-- Lemmas of the laws.
pub mod AssignLemmas
pub mod OnePointerLemmas
pub mod PartLemmas
pub mod ResolveLemmas
pub mod SlashLemmas
