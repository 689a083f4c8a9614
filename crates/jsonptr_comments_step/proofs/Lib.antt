pub mod CheckLemmas
pub mod KeptLemmas
pub mod PatchLemmas
pub mod StepLemmas
pub mod OperationLemmas
