-- Lemmas on runs, on what is found in a document, on undoing assignments, and on the laws of the machine.
pub mod RunLemmas
pub mod FoundLemmas
pub mod UndoLemmas
pub mod MachineLemmas
pub mod RunLawLemmas
