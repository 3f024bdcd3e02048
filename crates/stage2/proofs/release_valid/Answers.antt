-- By what the searches find: a range goes, a region goes, or nothing does.
use mathlib.Core.Path.{sym, ◌∙◌}
use native.Mathlib.Omega.{arith}
use Rattle.stage2.proofs.Release.{range_within, range_found, region_within, region_found, none_found}
use Rattle.stage2.proofs.release_valid.Goals as goal

pub remove_at-requires : goal.remove_at-requires
remove_at-requires c =
    let a = c.args in
    range_within a.policy a.base_ipa a.size (omega arith) (omega arith) c.allowed_held-allowed.ensures (sym c.position.ensures ∙ c.in-Some.is)

pub returns-in-Some : goal.returns-in-Some
returns-in-Some c =
    let a = c.args in
    rw c.remove_at.ensures (range_found a.policy a.base_ipa a.size (omega arith) (omega arith) c.allowed_held-allowed.ensures (sym c.position.ensures ∙ c.in-Some.is))

pub remove_at-requires-in-Some-position : goal.remove_at-requires-in-Some-position
remove_at-requires-in-Some-position c =
    let a = c.args in
    region_within a.policy a.base_ipa a.size (omega arith) (omega arith) c.allowed_held-allowed.ensures c.regions_held-regions.ensures (sym c.position.ensures ∙ c.in_default.is)
    (sym c.position-2.ensures ∙ c.in-Some-position.is)

pub returns-in-Some-position : goal.returns-in-Some-position
returns-in-Some-position c =
    let a = c.args in
    rw c.remove_at-in-Some-position.ensures
    (region_found a.policy a.base_ipa a.size (omega arith) (omega arith) c.allowed_held-allowed.ensures c.regions_held-regions.ensures (sym c.position.ensures ∙ c.in_default.is)
    (sym c.position-2.ensures ∙ c.in-Some-position.is))

pub returns : goal.returns
returns c =
    let a = c.args in
    c.refuse.ensures
    ∙ none_found a.policy a.base_ipa a.size (omega arith) (omega arith) c.allowed_held-allowed.ensures c.regions_held-regions.ensures (sym c.position.ensures ∙ c.in_default.is)
    (sym c.position-2.ensures ∙ c.in_default-position.is)
