-- What each operation of a patch makes of a document, when it fails, what a whole list of operations does, which
-- operations a patch has, and when it needs no memory (RFC 6902).
pub mod Inserting
pub mod Adding
pub mod Testing
pub mod Failing
pub mod Operating
pub mod Patching
pub mod Inverse
pub mod Apart
pub mod Operations
pub mod Order
pub mod Memory
pub mod PrivateAdding
pub mod PrivateTesting
pub mod PrivateRecording
pub mod PrivateSearching
pub mod PrivateInverse
pub mod PrivateLater
