-- When two documents have no difference; what operations do that are appended to a patch, and which values are the same.
pub mod Diff
pub mod PrivateSame
pub mod PrivateDiff
