-- Laws that the proofs of this crate and of those above cite.
pub mod Laws
pub mod CounterLoad
pub mod ByHandler
pub mod Opened
