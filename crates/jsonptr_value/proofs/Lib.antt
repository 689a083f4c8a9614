-- Lemmas on depth and on lengths, also for the proofs of the crates above.
mod DepthLemmas
pub mod NestingLemmas
pub mod LevelLemmas
pub mod LengthLemmas
mod StackLemmas
mod SameLemmas
pub mod WritingLemmas
mod PartialLemmas
-- The keys of what is parsed are sorted, for the laws of this crate and for callers.
mod OptionLemmas
pub mod JsonLemmas
pub mod TomlLemmas
