use native.Mathlib.Omega.{arith}
use Rattle.lent_policy.proofs.Search.{place_found, place_missing, base_below, region_here, region_nothing}
use Rattle.lent_policy.proofs.find_region.Goals as goal

pub returns-then-regions_held-place : goal.returns-then-regions_held-place
returns-then-regions_held-place c =
    let a = c.args in
    region_nothing a.policy.now a.ipa
    (place_missing a.policy.now a.ipa.0 c.find_place-place.ensures c.regions_held.ensures c.if-regions_held-place.true)

pub overflow_sub-result : goal.overflow_sub-result
overflow_sub-result c =
    let a = c.args in
    rw c.get_region-region.ensures
    (base_below a.policy.now a.ipa
    (place_found a.policy.now a.ipa.0 c.find_place-place.ensures c.regions_held.ensures (omega (arith, c.if-regions_held-place.false))))

pub returns : goal.returns
returns c =
    let a = c.args in
    rw c.get_region-region.ensures
    (region_here a.policy.now a.ipa
    (place_found a.policy.now a.ipa.0 c.find_place-place.ensures c.regions_held.ensures (omega (arith, c.if-regions_held-place.false))))
