-- Lemmas on patch documents: what excludes what, lists of operations, and what is written.
pub mod ObjectLemmas
pub mod DocumentLemmas
pub mod FaultyLemmas
pub mod SameLemmas
pub mod SortingLemmas
pub mod WritingLemmas
pub mod DepthLemmas
