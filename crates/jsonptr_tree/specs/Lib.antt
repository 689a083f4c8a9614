-- Documents as maps from paths to nodes, following tokens in them, and writing where the tokens
-- lead (RFC 6901, section 4).
pub mod Node
pub mod Following
pub mod Content
pub mod Json
pub mod TomlValue
pub mod Documents
pub mod Put
pub mod Expansion
pub mod Landing
pub mod Assigning
pub mod Removing
pub mod PrivateUndoing
pub use Rattle.jsonptr_grammar.specs.Text
