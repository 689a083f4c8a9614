-- How deep a document nests.
pub mod Nesting
-- How many tokens a value is printed as
pub mod Lengths
-- The JSON text of a value
pub mod JsonText
-- Why a text is not read
pub mod Reading
-- The type and the length of a value
pub mod NodeTypes
pub mod PrivateFrames
pub mod PrivatePartial
