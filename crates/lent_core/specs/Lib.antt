-- What the contracts of `lent_core` cite.
pub mod Calls
