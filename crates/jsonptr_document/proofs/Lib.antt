-- Lemmas that several proofs of this crate cite.
pub mod BadIndex
pub mod ChildLemmas
pub mod LevelNodes
pub mod LevelPut
pub mod LevelChildren
pub mod JsonLevel
pub mod TomlLevel
