-- What the contracts of `qemu` cite.
pub mod FilteredMmio
