pub mod ResultLemmas
pub mod RunLemmas
mod ReplacementLemmas
mod DifferenceLemmas
mod InverseLemmas
mod CuttingLemmas
mod OrderLemmas
mod NodeLemmas
mod OneErrorLemmas
mod LongPatchLemmas
mod DocumentLemmas
mod ReprintLemmas
mod TransferLemmas
mod ExpandingLemmas
mod SeveralLemmas
mod OperationLemmas
