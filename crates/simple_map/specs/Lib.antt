-- What the contracts of `simple_map` cite, and what its laws say.
pub mod Map
pub mod Keys
