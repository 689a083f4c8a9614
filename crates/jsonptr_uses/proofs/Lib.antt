-- Lemmas on the undos of an editor, on removals, patches, settings in layers, references and checks, on a
-- cursor, on the next element, and on calls that are read.
pub mod UndoingLemmas
mod RemovingLemmas
mod PatchesLemmas
mod PatchDocumentsLemmas
mod SettingsLemmas
mod SettingsInPlaceLemmas
mod LayersLemmas
mod ReferencesLemmas
mod CheckingLemmas
mod OverlayLemmas
mod EditingLemmas
mod NextLemmas
mod SessionsLemmas
mod GivenTextsLemmas
pub mod InTextLemmas
mod EditsInTextLemmas
mod EditsInTomlLemmas
mod JsonLinesLemmas
mod StreamsLemmas
mod LocationsLemmas
