use mathlib.Core.Path.{refl}
use Rattle.ritm.specs.Interface.{align_down_call}
use Rattle.ritm.proofs.ritm_align_down_to_page.Goals as goal

pub returns : goal.returns
unfolding align_down_call
returns c = (refl, refl, rw (c.put_one_word.ensures, c.align_down_to_page.ensures))
