use Rattle.ritm.specs.Interface.{extend_call}
use mathlib.Core.Path.{refl}
use Rattle.ritm.proofs.ritm_extend_read_result.Goals as goal

pub returns-in-Some : goal.returns-in-Some
unfolding extend_call
returns-in-Some c = (
  rw (← c.decode.ensures, c.in-Some.is),
  refl,
  rw (c.put_one_word.ensures, c.extend_read_result.ensures, ← c.decode.ensures, c.in-Some.is),
)

pub returns-in-None : goal.returns-in-None
unfolding extend_call
returns-in-None c = (rw (c.decoded_number.ensures, ← c.decode.ensures, c.in-None.is), refl, rw (c.put_one_word-in-None.ensures, ← c.decode.ensures, c.in-None.is))
