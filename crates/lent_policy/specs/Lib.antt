-- What the contracts say of the policy in lent bytes.
pub mod Layout
pub mod Calls
