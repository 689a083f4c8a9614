pub mod Comments
pub mod Parts
pub mod PrivateScanning
pub mod PrivateStepping
pub mod Faults
