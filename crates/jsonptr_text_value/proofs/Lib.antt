pub mod FittingLemmas
pub mod ListLemmas
pub mod WrappingLemmas
