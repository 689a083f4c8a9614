pub mod AddingLemmas
pub mod AlikeLemmas
pub mod ChildLemmas
pub mod ChildTextLemmas
pub mod LeadingLemmas
pub mod RenamingLemmas
pub mod SideLemmas
mod CommaLaws
