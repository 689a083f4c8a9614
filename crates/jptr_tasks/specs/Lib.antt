-- Definitions of the contracts of commands on texts.
pub mod Failures
pub mod Layouts
pub mod Nodes
pub mod Expanding
pub mod Transfers
pub mod Several
pub mod Reprinting
pub mod Results
pub mod Differences
pub mod Inverting
pub mod Merging
pub mod Documents
pub mod Paths
pub mod LineResults
pub mod OneError
pub mod Runs
pub mod Cutting
-- Replacing the text of a file
pub mod Replacement
pub mod PrivateReplacement
pub mod PrivateNodes
pub mod PrivateExpanding
pub mod PrivateTransfers
pub mod PrivateSeveral
pub mod PrivateResults
pub mod PrivateLineResults
pub mod PrivateRuns
