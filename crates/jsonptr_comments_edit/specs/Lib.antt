-- Edits of the text of a document with comments.
pub mod Closed
pub mod Commented
