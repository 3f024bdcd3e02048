-- Laws of the cores in lent bytes.
pub mod Records
pub mod Results
pub mod States
