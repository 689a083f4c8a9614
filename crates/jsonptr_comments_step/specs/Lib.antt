pub mod EditWithComments
pub mod Edits
pub mod Kept
pub mod Patches
pub mod PrivateChecking
pub mod PrivateStepping
