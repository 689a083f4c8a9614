pub mod ApartSteps
pub mod SlotSteps
pub mod TextSlotSteps
mod ChangeLemmas
pub mod PointerLemmas
mod NestingLemmas
mod BoundLemmas
mod LawLemmas
mod NotBothLemmas
mod FragmentLemmas
mod LocationLemmas
mod MessageLemmas
mod BoundedMessages
mod CopyLemmas
mod OpenTextLemmas
mod TomlValueLemmas
mod KeyLemmas
mod SetterLemmas
mod KeyErrorLemmas
