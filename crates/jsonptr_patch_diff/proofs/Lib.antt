-- Lemmas on values that are the same, and on the operations that turn one into another.
pub mod SortedLemmas
pub mod SameLemmas
pub mod TurningLemmas
pub mod ChangeLemmas
pub mod MixedLemmas
pub mod MemberLemmas
pub mod ElementLemmas
mod ChangeLaws
mod StepLaws
