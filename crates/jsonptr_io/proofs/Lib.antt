pub mod LineLemmas
pub mod StreamLemmas
mod WholeLemmas
