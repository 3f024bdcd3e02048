-- Laws of a reply on lent bytes.
pub mod Laws
