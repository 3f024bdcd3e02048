use mathlib.Core.Path.{refl}
use native.Mathlib.Omega.{arith}
use Rattle.lent_policy.proofs.Search.{place_found, place_missing, base_below, find-leaves, none_leaves}
use Rattle.lent_policy.proofs.find.Goals as goal

pub overflow_sub-ipa : goal.overflow_sub-ipa
overflow_sub-ipa c =
    let a = c.args in
    let found = place_found a.policy.now a.ipa c.find_place-place.ensures c.regions_held.ensures c.if-place-regions_held.true in
    rw c.get_region_base.ensures (base_below a.policy.now (record { 0 = a.ipa }) found)

pub returns-then-place-regions_held : goal.returns-then-place-regions_held
returns-then-place-regions_held c =
    let a = c.args in
    let found = place_found a.policy.now a.ipa c.find_place-place.ensures c.regions_held.ensures c.if-place-regions_held.true in
    rw (find-leaves a.policy.now a.ipa found, ← c.get_region_base.ensures) (refl, refl, c.put_three.ensures)

pub returns-else-place-regions_held : goal.returns-else-place-regions_held
returns-else-place-regions_held c =
    let a = c.args in
    let none = place_missing a.policy.now a.ipa c.find_place-place.ensures c.regions_held.ensures (omega (arith, c.if-place-regions_held.false)) in
    rw (none_leaves a.policy.now a.ipa none) (refl, refl, c.put_three-else-place-regions_held.ensures)
