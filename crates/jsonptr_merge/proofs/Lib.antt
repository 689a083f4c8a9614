-- Lemmas on merges.
pub mod PatchLaws
mod MakingLaws
mod MergeLaws
mod ObjectLemmas
mod PatchLemmas
mod MergeLemmas
mod SideLemmas
mod FindingLemmas
mod MakeLemmas
