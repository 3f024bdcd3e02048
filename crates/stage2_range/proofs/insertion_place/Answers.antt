use mathlib.Core.Path.{◌∙◌}
use lib.Dec.{leb}
use borrow.Author.Tests.{tests}
use Rattle.std.proofs.Common.{rules}
use Rattle.std.proofs.lemmas.Iterator.{YieldsList-from_slice}
use Rattle.std.proofs.lemmas.Iterator.Search.{position_from_yields_List}
use Rattle.stage2_range.proofs.Registry.{place_or_length}
use Rattle.stage2_range.proofs.insertion_place.Goals as goal

pub returns : goal.returns
returns c =
    let a = c.args in
    c.unwrap_or.ensures
    ∙ place_or_length (λ r. leb a.base_ipa r.base_ipa) a.regions.now _
    (position_from_yields_List (λ r. leb a.base_ipa r.base_ipa) _ _ _ c.position.ensures.ran (YieldsList-from_slice a.regions.now cc) (λ x b q k. search (rules, tests)))
