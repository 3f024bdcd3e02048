-- What the contracts of `forwarded_call` cite.
pub mod ForwardedCall
pub mod Agreement
