-- Lemmas about the definitions of specs/, for the laws of this crate and for the proofs of those above.
pub mod EscapeLemmas
pub mod PointerLemmas
pub mod FaultLemmas
pub mod DecLemmas
pub mod Utf8Lemmas
pub mod ScanLemmas
pub mod OrderLemmas
