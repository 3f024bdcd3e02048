-- What the contracts of `memory_access` cite.
pub mod Syndrome
pub mod Transfer
