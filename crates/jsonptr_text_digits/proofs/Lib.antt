-- Digits, and the numbers that they write.
mod DigitLemmas
mod TenLemmas
mod EqualLemmas
mod ValueLemmas
mod KeptLemmas
mod FindLemmas
