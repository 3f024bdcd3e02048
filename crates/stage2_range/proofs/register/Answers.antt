-- An accepted region goes to the place that `insertion_place` gives.
use native.Mathlib.Omega.{arith}
use mathlib.Core.Path.{◌≡◌, sym, ◌∙◌, ap}
use mathlib.Core.Bool.{false}
use Rattle.stage2_range.specs.Registry.{overlaps_regions, region_bytes}
use Rattle.stage2_range.proofs.Registry.{place_within, apart_placed}
use Rattle.stage2_range.proofs.register.Goals as goal

pub insert_at-requires : goal.insert_at-requires
insert_at-requires c =
    let a = c.args in
    (place_within a.regions a.region_count a.region c.held-held.ensures c.insertion_place-at.ensures (omega arith) (omega arith), omega arith)

pub returns : goal.returns
returns c =
    let a = c.args in
    let apart : overlaps_regions c.held-held.result.now (region_bytes a.region) ≡ false = ap (overlaps_regions c.held-held.result.now) (sym c.bytes.ensures) ∙ sym c.overlaps.ensures ∙ c.if-overlaps.false in
    rw (c.insert_at.ensures) (apart_placed a.regions a.region_count a.region c.held-held.ensures c.insertion_place-at.ensures (omega arith) (omega arith) apart)
