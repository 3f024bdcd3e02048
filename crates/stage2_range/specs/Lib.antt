-- What the contracts of `stage2_range` cite.
pub mod Ranges
pub mod Handlers
pub mod Registry
