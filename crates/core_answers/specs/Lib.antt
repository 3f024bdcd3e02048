-- What the contracts of `core_answers` cite.
pub mod Answers
