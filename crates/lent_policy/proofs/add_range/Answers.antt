use native.Mathlib.Omega.{arith}
use mathlib.Core.Path.{sym}
use Rattle.lent_words.specs.Words.{Lent}
use Rattle.lent_policy.specs.Layout.{policy_size}
use Rattle.lent_policy.proofs.InPlace.{range_stored}
use Rattle.lent_policy.proofs.add_range.Goals as goal

pub returns : goal.returns
returns c =
    let a = c.args in
    let lent : Lent policy_size a.policy.now = record { long = omega arith; bytes = c.are_bytes.ensures } in
    rw (c.put_word.ensures, c.put_range.ensures, c.get_allowed_count-count.ensures) (sym (range_stored a.policy.now _ a.range _ lent (omega arith)))
