-- What the contracts of `lent_import` cite.
pub mod Calls
