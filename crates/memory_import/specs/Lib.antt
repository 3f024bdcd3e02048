-- What the contracts of `memory_import` cite, and the calls that change a policy.
pub mod Import
pub mod Changes
