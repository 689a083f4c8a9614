pub mod CountLemmas
pub mod CutLemmas
pub mod EncodingLemmas
pub mod IndexLemmas
pub mod NumberLemmas
pub mod TokenLemmas
