-- What contracts say about labels, reports, and the text that a report is drawn as.
pub mod Diagnostic
pub mod Report
pub mod Rendering
pub mod PrivateRendering
pub use Rattle.jsonptr_grammar.specs.Text
