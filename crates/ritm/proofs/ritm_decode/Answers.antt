use Rattle.ritm.specs.Interface.{decode_call}
use mathlib.Core.Path.{refl}
use Rattle.ritm.proofs.ritm_decode.Goals as goal

pub returns : goal.returns
unfolding decode_call
returns c =
    let decoded = c.decode-decoded.ensures in
    (rw (c.decoded_number.ensures, decoded), refl, rw (c.put_six.ensures, c.decoded_values.ensures, decoded))
