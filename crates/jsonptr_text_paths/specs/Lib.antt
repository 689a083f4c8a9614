-- The nodes of a document in order, the lines that list them, and what is read from such lines.
pub mod Walking
pub mod Listing
pub mod TomlListing
pub mod Building
pub mod PrivateWalking
pub mod PrivateListing
pub mod PrivateElements
pub mod PrivateBuilding
pub mod PrivateRebuilding
