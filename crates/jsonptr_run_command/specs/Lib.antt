pub mod JsonText
pub mod Faults
pub mod Operations
pub mod Run
pub mod Private
pub mod PrivateOperations
