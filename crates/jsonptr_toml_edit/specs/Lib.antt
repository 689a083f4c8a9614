-- Edits of a TOML document in its text.
pub mod Bytes
pub mod EditInToml
pub mod Failing
pub mod Giving
pub mod PrivateRenaming
pub mod RawValue
pub mod Renaming
pub mod TomlEditErrors
pub mod TomlEdits
pub mod TomlOutcomes
