-- By what the searches find: a range goes, a region goes, or nothing does.
use mathlib.Core.Path.{refl}
use native.Mathlib.Omega.{arith}
use Rattle.lent_release.proofs.Laws.{range_searched, region_searched, range_within, range_released, region_within, region_released, none_released}
use Rattle.lent_release.proofs.release_valid.Goals as goal

pub remove_range-requires : goal.remove_range-requires
remove_range-requires c =
    let a = c.args in
    let found = range_searched a.policy.now a.base_ipa a.size c.allowed_held-ranges.ensures c.stored_place.ensures c.in-Some.is in
    (omega (arith, c.allowed_held-ranges.ensures, range_within a.policy.now a.base_ipa a.size found), omega (arith, c.allowed_held-ranges.ensures))

pub returns-in-Some : goal.returns-in-Some
returns-in-Some c =
    let a = c.args in
    let found = range_searched a.policy.now a.base_ipa a.size c.allowed_held-ranges.ensures c.stored_place.ensures c.in-Some.is in
    rw (range_released a.policy.now a.base_ipa a.size found, ← c.allowed_held-ranges.ensures)
    (refl, c.remove_range.ensures, refl)

pub remove_region-requires : goal.remove_region-requires
remove_region-requires c =
    let a = c.args in
    let no_range = range_searched a.policy.now a.base_ipa a.size c.allowed_held-ranges.ensures c.stored_place.ensures c.in_default.is in
    let found = region_searched a.policy.now a.base_ipa a.size c.regions_held-regions.ensures c.stored_place-2.ensures c.in-Some-stored_place.is in
    (omega (arith, c.regions_held-regions.ensures, region_within a.policy.now a.base_ipa a.size no_range found), omega (arith, c.regions_held-regions.ensures))

pub returns-in-Some-stored_place : goal.returns-in-Some-stored_place
returns-in-Some-stored_place c =
    let a = c.args in
    let no_range = range_searched a.policy.now a.base_ipa a.size c.allowed_held-ranges.ensures c.stored_place.ensures c.in_default.is in
    let found = region_searched a.policy.now a.base_ipa a.size c.regions_held-regions.ensures c.stored_place-2.ensures c.in-Some-stored_place.is in
    rw (region_released a.policy.now a.base_ipa a.size no_range found, ← c.regions_held-regions.ensures)
    (refl, c.remove_region.ensures, refl)

pub returns : goal.returns
returns c =
    let a = c.args in
    let no_range = range_searched a.policy.now a.base_ipa a.size c.allowed_held-ranges.ensures c.stored_place.ensures c.in_default.is in
    let no_region = region_searched a.policy.now a.base_ipa a.size c.regions_held-regions.ensures c.stored_place-2.ensures c.in_default-stored_place.is in
    rw (none_released a.policy.now a.base_ipa a.size no_range no_region) (c.number.ensures, refl, refl)
