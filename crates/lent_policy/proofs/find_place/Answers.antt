use native.Mathlib.Omega.{arith}
use Rattle.lists.proofs.Laws.{index_here, index_later}
use Rattle.stage2_range.proofs.Ranges.{has_told}
use Rattle.lent_policy.specs.Layout.{region_at}
use Rattle.lent_policy.proofs.Search.{region_read, index_begins}
use Rattle.lent_policy.proofs.find_place.Goals as goal

pub loop-place-init : goal.loop-place-init
loop-place-init c = index_begins _ _

pub returns-then-has_byte : goal.returns-then-has_byte
returns-then-has_byte c =
    let b = c.args.policy.now in
    let l = c.loop-place in
    index_here l.invariant (omega arith) (omega arith) (region_at b 0)
    (has_told _ c.has_byte.ensures (region_read b l.place (omega arith) (region_at b 0)) c.if-has_byte.true)

pub loop-place-preserved : goal.loop-place-preserved
loop-place-preserved c =
    let b = c.args.policy.now in
    let l = c.loop-place in
    index_later l.invariant (omega arith) (omega arith) (region_at b 0)
    (has_told _ c.has_byte.ensures (region_read b l.place (omega arith) (region_at b 0)) c.if-has_byte.false)
