-- What definitions say of a number's bits.
pub mod Bits
