-- The bench table, and the states that its rows start from.
pub mod States
pub mod BenchTable
