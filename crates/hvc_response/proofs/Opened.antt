-- The definitions of this crate and of those below it, opened together, for proofs by computation. Assumes nothing.
use Rattle.exceptions.proofs.Opened as exceptions
use Rattle.hvc_response.specs.Response.{signed_word, response, with_first, result_of_kind}

unfoldable pub opened : Unit {0}
unfolding exceptions.opened signed_word response with_first result_of_kind
opened = tt
