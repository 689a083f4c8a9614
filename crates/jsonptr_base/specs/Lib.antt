-- What contracts say about faults, reports, tokens and array indices.
pub mod Fault
pub mod Token
pub mod Index
pub mod Number
pub mod Private
pub use Rattle.jsonptr_grammar.specs.Text
pub use Rattle.jsonptr_grammar.specs.Grammar
pub use Rattle.jsonptr_grammar.specs.FirstFault
pub use Rattle.jsonptr_diagnostic.specs.Diagnostic
pub use Rattle.jsonptr_diagnostic.specs.Report
pub use Rattle.jsonptr_diagnostic.specs.Rendering
