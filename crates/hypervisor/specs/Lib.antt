-- What the contracts of `hypervisor` cite.
pub mod Trap
pub mod Cores
