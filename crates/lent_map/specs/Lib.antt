-- What the contracts say of the suspend map in lent bytes.
pub mod Layout
pub mod Calls
