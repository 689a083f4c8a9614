-- Finding, changing and listing values in the text of a TOML document.
pub mod Errors
pub mod InToml
