-- Laws of the suspend map in lent bytes.
pub mod Records
pub mod States
pub mod InPlace
