mod BytesLaws
mod DeletionLemmas
mod RewritingLemmas
pub mod BytesLemmas
pub mod EditLemmas
pub mod OperatingLemmas
pub mod RawLemmas
pub mod ReachingLemmas
pub mod RemoveLemmas
pub mod RenameErrorLemmas
pub mod RenamingLemmas
