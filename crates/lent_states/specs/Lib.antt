-- What is said of calls on lent bytes.
pub mod LentStates
