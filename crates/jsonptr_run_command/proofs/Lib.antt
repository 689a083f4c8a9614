pub mod CommandLemmas
pub mod JsonLemmas
pub mod AnswerLemmas
pub mod TextsLemmas
pub mod OperationWordsLemmas
pub mod RunLaw
pub mod OperationDataLemmas
mod OrderLemmas
mod PatchFaultLemmas
