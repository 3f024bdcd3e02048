use Rattle.ritm.specs.Interface.{align_up_call}
use mathlib.Core.Path.{refl}
use Rattle.ritm.proofs.ritm_align_up_to_page.Goals as goal

pub returns : goal.returns
unfolding align_up_call
returns c =
    let aligned = c.align_up_to_page-aligned.ensures in
    (rw (c.aligned_number.ensures, aligned), refl, rw (c.put_one_word.ensures, c.aligned_value.ensures, aligned))
