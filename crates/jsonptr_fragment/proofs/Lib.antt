-- Lemmas on fragments.
mod EncodingLemmas
mod ErrorLaws
mod SetLemmas
mod UnitLemmas
mod ReadLemmas
