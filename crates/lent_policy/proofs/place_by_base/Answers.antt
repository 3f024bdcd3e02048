use native.Mathlib.Omega.{arith}
use borrow.Author.Tests.{le-leb, lt-leb}
use Rattle.lists.proofs.Laws.{index_here, index_later}
use Rattle.lent_policy.specs.Layout.{region_at}
use Rattle.lent_policy.proofs.Records.{region_of_lem}
use Rattle.lent_policy.proofs.Search.{index_begins}
use Rattle.lent_policy.proofs.place_by_base.Goals as goal

pub loop-place-init : goal.loop-place-init
loop-place-init c = index_begins _ _

pub returns-then-base_ipa-get_region_base : goal.returns-then-base_ipa-get_region_base
returns-then-base_ipa-get_region_base c =
    let a = c.args in
    let b = a.policy.now in
    let n = c.loop-place.place in
    index_here c.loop-place.invariant (omega arith) (omega arith) (region_at b 0) (rw (region_of_lem b n (region_at b 0) (omega arith), ← c.get_region_base.ensures) (le-leb _ _ (omega arith)))

pub loop-place-preserved : goal.loop-place-preserved
loop-place-preserved c =
    let a = c.args in
    let b = a.policy.now in
    let n = c.loop-place.place in
    index_later c.loop-place.invariant (omega arith) (omega arith) (region_at b 0) (rw (region_of_lem b n (region_at b 0) (omega arith), ← c.get_region_base.ensures) (lt-leb _ _ (omega arith)))
