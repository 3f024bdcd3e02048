use native.Mathlib.Omega.{arith}
use Rattle.lent_policy.specs.Layout.{with_regions}
use Rattle.lent_policy.proofs.Search.{place_within, inserted_there}
use Rattle.lent_policy.proofs.insert_region.Goals as goal

pub place_at-requires : goal.place_at-requires
place_at-requires c =
    let a = c.args in
    omega (arith, c.place_by_base-at.ensures, place_within a.policy.now a.region.base_ipa, c.get_region_count-count.ensures)

pub returns : goal.returns
unfolding with_regions
returns c =
    let a = c.args in
    rw (
      c.put_word.ensures,
      c.place_at.ensures,
      c.place_by_base-at.ensures,
      c.get_region_count-count.ensures,
      inserted_there a.policy.now a.region (omega arith),
    )
