use Prim.Native.Nat.{◌-◌}
use mathlib.Core.Path.{◌≡◌}
use native.Mathlib.Omega.{arith}
use Rattle.lent_words.specs.Words.{Lent}
use Rattle.lent_policy.specs.Layout.{policy_size}
use Rattle.lent_release.proofs.Removal.{close_step}
use Rattle.lent_release.proofs.Laws.{ranges, ranges-closed}
use Rattle.lent_release.proofs.remove_range.Goals as goal

pub loop-place-preserved : goal.loop-place-preserved
loop-place-preserved c =
    let a = c.args in
    let l = c.loop-place in (
      omega arith,
      omega arith,
      omega arith,
      rw (c.copy_range_down.ensures, l.invariant.3) (close_step ranges a.policy.now a.at l.place (omega arith)),
    )

pub returns : goal.returns
returns c =
    let a = c.args in
    let l = c.loop-place in
    let e : l.place ≡ a.n - 1 = omega arith in
    let lent : Lent policy_size a.policy.now = record { long = omega arith; bytes = c.are_bytes.ensures } in
    rw (c.put_word.ensures, l.invariant.3, e) (ranges-closed a.policy.now a.at a.n lent (omega arith) (omega arith))
