pub mod ReadingLemmas
pub mod SearchLemmas
pub mod TokenCount
