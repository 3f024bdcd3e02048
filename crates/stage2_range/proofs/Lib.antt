-- Laws that the proofs of this crate and of those above cite.
pub mod Moves
pub mod Ranges
pub mod Handlers
pub mod Registry
pub mod Opened
