pub mod Reading
pub mod PrivateReading
pub mod Search
