-- The text of a pointer in the fragment of a URI, and why a text is not one.
pub mod Fragment
pub mod FragmentError
pub mod PrivateUnits
