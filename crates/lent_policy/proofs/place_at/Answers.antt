use native.Mathlib.Omega.{arith}
use Prim.Native.Nat.{◌+◌, ◌-◌}
use mathlib.Core.Path.{◌≡◌, ◌∙◌}
use Rattle.lent_words.specs.Words.{Lent}
use Rattle.lent_policy.specs.Layout.{policy_size, region_at, with_region}
use Rattle.lent_policy.proofs.Records.{region_beside}
use Rattle.lent_policy.proofs.InPlace.{copied, region_lent, region_rewritten, region_comm}
use Rattle.lent_policy.proofs.Insertion.{shift_step, shift_done}
use Rattle.lent_policy.proofs.place_at.Goals as goal

pub loop-place-preserved : goal.loop-place-preserved
loop-place-preserved c =
    let a = c.args in
    let l = c.loop-place in
    let next : (l.place - 1) + 1 ≡ l.place = omega arith in (
      omega arith,
      omega arith,
      c.copy_region_to.ensures ∙ copied _ _ _ (omega arith) (omega arith) ∙ rw (l.invariant.2, next) (shift_step region_at with_region (Lent policy_size) region_lent region_rewritten region_beside region_comm a.n a.policy.now l.place (omega arith) (omega arith)),
    )

pub returns : goal.returns
returns c =
    let a = c.args in
    let l = c.loop-place in
    let e : l.place ≡ a.at = omega arith in
    let lent : Lent policy_size a.policy.now = record { long = omega arith; bytes = c.are_bytes.ensures } in
    rw (c.put_region.ensures, l.invariant.2, e) (shift_done region_at with_region (Lent policy_size) region_lent region_rewritten region_beside region_comm a.n a.policy.now 16 a.at a.region (omega arith) (omega arith) lent)
