-- The texts and the grammar of RFC 6901, section 3, and where a text first leaves it.
pub mod Text
pub mod Grammar
pub mod FirstFault
