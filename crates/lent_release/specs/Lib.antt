-- What the contracts say of a release in lent bytes.
pub mod Calls
