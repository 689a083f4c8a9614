-- Where the undos of an editor lead, and where references lead. The values of settings in layers and of an overlay, and
-- the layer that a setting comes from.
-- What a document is checked for. Sessions on texts. Why a patch document is not applied.
pub mod Undoing
pub mod Settings
pub mod SettingsInPlace
pub mod Layers
pub mod References
pub mod Checking
pub mod Commented
pub mod InText
pub mod Overlay
pub mod Editing
pub mod EditsInText
pub mod EditsInToml
pub mod JsonLines
pub mod Sessions
pub mod PatchDocuments
