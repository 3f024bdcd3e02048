-- Laws that the proofs of the crates above cite.
pub mod Laws
pub mod WellFormed
pub mod Held
pub mod Release
pub mod Freed
pub mod Commute
pub mod ReleaseValues
pub mod Opened
