-- What the contracts of `exceptions` cite.
pub mod Registers
