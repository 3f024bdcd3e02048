-- What the contracts of `records` cite.
pub mod Lines
pub mod Records
