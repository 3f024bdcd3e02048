-- Laws that the proofs of the crates above cite.
pub mod Laws
pub mod InWords
pub mod Opened
