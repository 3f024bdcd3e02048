-- What the contracts say of the cores in lent bytes.
pub mod Layout
