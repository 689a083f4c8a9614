pub mod EditLemmas
pub mod PatchLemmas
pub mod OutcomeLemmas
