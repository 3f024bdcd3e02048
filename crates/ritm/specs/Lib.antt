-- What the contracts of `ritm` cite.
pub mod Interface
