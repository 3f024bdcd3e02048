-- Laws of a trap on lent bytes.
pub mod Laws
