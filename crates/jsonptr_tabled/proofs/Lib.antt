-- Lemmas on tables of offsets, and on reading the first and the last token of a list.
pub mod TableLemmas
pub mod ReadingLemmas
