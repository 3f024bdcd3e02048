use Prim.Native.Nat.{◌+◌, ◌*◌}
use native.Mathlib.Omega.{arith}
use Rattle.lent_policy.proofs.Search.{records_begin, record_here, record_later}
use Rattle.lent_policy.proofs.overlaps.Goals as goal

pub loop-place-init : goal.loop-place-init
loop-place-init g c = records_begin _ _ _ _

pub returns-then-shares_byte : goal.returns-then-shares_byte
returns-then-shares_byte g c =
    record_here _ _ (λ k. g.row.FIRST + g.row.WORDS * k) _ c.loop-place.invariant (omega arith) c.shares_byte.ensures c.if-shares_byte.true

pub loop-place-preserved : goal.loop-place-preserved
loop-place-preserved g c =
    record_later _ _ (λ k. g.row.FIRST + g.row.WORDS * k) _ c.loop-place.invariant (omega arith) c.shares_byte.ensures c.if-shares_byte.false
