-- Documents of every type, one level at a time, and one step into them (RFC 6901, section 4).
pub mod Document
pub mod Child
pub mod ChildRef
pub mod Writing
pub mod Private
pub mod PrivateJson
pub mod PrivateToml
pub use Rattle.jsonptr_base.specs.Fault
pub use Rattle.jsonptr_base.specs.Index
pub use Rattle.jsonptr_grammar.specs.Text
pub use Rattle.jsonptr_tree.specs.Node
pub use Rattle.jsonptr_tree.specs.Following
pub use Rattle.jsonptr_tree.specs.Put
pub use Rattle.jsonptr_tree.specs.Content
pub use Rattle.jsonptr_tree.specs.Json
pub use Rattle.jsonptr_tree.specs.TomlValue
