-- What the contracts of `stage2` cite.
pub mod Policy
pub mod Builds
