pub mod Format
pub mod InText
pub mod PrivateFormat
pub mod PrivateSelectors
pub mod Selecting
