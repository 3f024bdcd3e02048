-- What the contracts of `lent_reply` cite.
pub mod LentReply
