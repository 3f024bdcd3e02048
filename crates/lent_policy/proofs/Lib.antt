-- Laws of the policy in lent bytes.
pub mod Records
pub mod States
pub mod InPlace
pub mod Insertion
pub mod Search
pub mod Calls
pub mod Cases
