-- What the contracts say of words in lent bytes.
pub mod Words
