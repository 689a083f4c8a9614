-- Lemmas on values that are the same, on the pieces of a text, and on what a change of a document leads to.
pub mod SameLemmas
pub mod ChangingLemmas
pub mod FailingLemmas
pub mod PieceLemmas
pub mod PairLemmas
pub mod MadeLemmas
pub mod GivingLemmas
pub mod NameLemmas
pub mod RenamingLemmas
pub mod OutcomeLemmas
pub mod EditLemmas
