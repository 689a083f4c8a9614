-- Which operations a JSON document is, why it is not a patch, and the document of a patch (RFC 6902, sections 3 and 4).
pub mod Object
pub mod Document
pub mod Writing
pub mod Same
pub mod Faulty
pub mod PrivateParts
