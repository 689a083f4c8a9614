-- What merge patches make of documents, and three-way merges.
pub mod Values
pub mod MergePatch
pub mod Making
pub mod Merge
pub mod Outcome
pub mod PrivateTrail
pub mod PrivateObjects
pub mod PrivateMaking
pub mod PrivateSides
