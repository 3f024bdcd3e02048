-- What is proved of the bench table.
pub mod BenchTable
