pub mod ChildLemmas
pub mod ErrorLemmas
pub mod FormatLemmas
pub mod SearchLemmas
pub mod SelectorLemmas
mod FormatLaws
