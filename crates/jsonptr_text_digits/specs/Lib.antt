pub mod Decimal
pub mod Digits
pub mod Exact
pub mod Kept
pub mod Lost
pub mod PrivateNormal
