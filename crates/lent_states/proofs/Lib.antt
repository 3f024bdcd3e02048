-- Calls on lent bytes are the library's calls on what the bytes hold.
pub mod Policies
pub mod Maps
pub mod Cores
pub mod LentStates
