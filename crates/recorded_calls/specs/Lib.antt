-- What the contracts of `recorded_calls` cite.
pub mod Maps
pub mod Policies
pub mod Values
