-- Definitions of this crate's contracts, beside those of `jsonptr`.
pub mod Private
