-- What a text of a document in the layout of an older one is.
pub mod Relaying
