-- What the contracts of `recorded_steps` cite.
pub mod Steps
