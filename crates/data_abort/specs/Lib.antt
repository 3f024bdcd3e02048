-- What the contracts of `data_abort` cite, and when an access is of the counter word.
pub mod DataAbort
pub mod CounterLoad
