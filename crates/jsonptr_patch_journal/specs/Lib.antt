-- Writing at a location of a document, what undoes it, and lists of that.
pub mod Location
pub mod Writing
pub mod Children
pub mod Changes
pub mod Rooms
pub mod Undoing
pub mod Journal
pub mod Locating
pub mod PrivateLocating
pub mod PrivateNodeMut
pub mod Leading
pub mod PrivateTokenStep
