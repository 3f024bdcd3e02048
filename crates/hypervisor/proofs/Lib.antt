-- Laws that the proofs of this crate and of those above cite.
pub mod Laws
pub mod Refusals
pub mod Steps
pub mod Kept
pub mod Waiting
pub mod Results
pub mod Counter
pub mod InWords
pub mod Opened
