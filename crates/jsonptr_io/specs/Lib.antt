-- The lines of an input, and what is done to a stream whose bytes may be unknown.
pub mod Streams
pub mod Lines
pub mod Whole
pub mod PrivateLines
