-- Edits of the text of a document.
pub mod Edited
pub mod Edits
pub mod Errors
pub mod Outcomes
pub mod PrivateErrors
pub mod PrivateKept
