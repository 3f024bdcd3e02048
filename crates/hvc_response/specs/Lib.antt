-- What the contracts of `hvc_response` cite.
pub mod Response
