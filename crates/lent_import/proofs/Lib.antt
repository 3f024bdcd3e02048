-- Laws that the proofs of the crates above cite.
pub mod Held
pub mod Fits
pub mod Laws
