-- Lemmas about the definitions of specs/, for the laws of this crate and for the proofs of those above.
pub mod NodeLemmas
pub mod FollowingLemmas
pub mod PutLemmas
pub mod ListedLemmas
pub mod TreeLemmas
pub mod LandingLemmas
pub mod ExpansionLemmas
pub mod AssigningLemmas
pub mod RemovingLemmas
pub mod UndoingLemmas
pub mod ContentLemmas
pub mod ContentMapLemmas
pub mod LevelLemmas
pub mod ContentOrderLemmas
pub mod JsonLemmas
pub mod JsonOrderLemmas
pub mod TomlLemmas
