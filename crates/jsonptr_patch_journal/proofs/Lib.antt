-- Lemmas about writing at locations, and about undoing it.
pub mod WritingLemmas
pub mod ThereLemmas
pub mod MembersLemmas
pub mod NodeLemmas
pub mod RoomLemmas
pub mod UndoLemmas
pub mod ParentLemmas
pub mod ChainLemmas
pub mod LocationLemmas
pub mod LocatingLemmas
pub mod TokenLemmas
pub mod LeadingLemmas
