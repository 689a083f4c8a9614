pub mod Alike
pub mod Child
pub mod Editing
pub mod Leading
pub mod PrivateChild
pub mod PrivateEditing
pub mod PrivateLeading
pub mod PrivateRenaming
