-- Lemmas on the walk over a document, on the lines of its nodes, and on what is read from lines.
pub mod WalkingLemmas
mod VisitingLemmas
mod ListingLemmas
mod ElementsLemmas
mod TomlListingLemmas
mod BuildingLemmas
mod OrderLemmas
mod RebuildingLemmas
pub mod PlainLemmas
mod RowLemmas
mod OneErrorLemmas
