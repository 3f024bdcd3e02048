-- What the contracts of `lent_trap` cite.
pub mod LentTrap
