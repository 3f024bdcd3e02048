use mathlib.Core.Path.{sym, ◌∙◌}
use Rattle.std.proofs.Common.{rules}
use Rattle.std.proofs.lemmas.Iterator.{YieldsList-from_slice}
use Rattle.std.proofs.lemmas.Iterator.Search.{any_from_yields_List}
use Rattle.stage2_range.specs.Ranges.{shares_byte}
use Rattle.stage2_range.proofs.Ranges.{overlaps_any}
use Rattle.stage2_range.proofs.overlaps.Goals as goal

pub returns : goal.returns
returns g c =
    let a = c.args in
    let bytes_of = g.T.PolicyRecord.bytes_of in
    any_from_yields_List (λ x. shares_byte (bytes_of x) a.bytes) _ _ _ c.any.ensures.ran (YieldsList-from_slice a.records.now cc) (λ x b q k. search rules)
    ∙ sym (overlaps_any bytes_of a.bytes a.records.now)
