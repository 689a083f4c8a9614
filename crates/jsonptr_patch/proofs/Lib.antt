-- Lemmas on insertions, additions, tests, whole patches, and the laws of patches.
pub mod InsertingLemmas
pub mod AddingLemmas
pub mod NumberLemmas
pub mod TestingLemmas
pub mod OperatingLemmas
pub mod RestoringLemmas
pub mod OneLemmas
pub mod PartLemmas
pub mod SomeLemmas
pub mod PatchLemmas
mod FailingLemmas
pub mod EqualityLemmas
pub mod ChangeMapLemmas
pub mod ChangeOrderLemmas
pub mod PlaceLemmas
mod SearchingLemmas
pub mod InverseLemmas
pub mod MemberLemmas
pub mod LevelLemmas
pub mod RefusalLemmas
pub mod ApartLemmas
pub mod LaterLemmas
pub mod WaitingLemmas
pub mod BackLemmas
mod BackOrderLemmas
pub mod ApartnessLemmas
pub mod ComparisonLemmas
pub mod ReplacingLemmas
pub mod OneInverseLemmas
