-- The loop's invariant: the place is `place` places further than the first that fits among the regions not yet passed.
use Prim.Native.Nat.{◌-◌, min}
use Rattle.lists.specs.Lists.{first_index}
use Rattle.lists.proofs.Laws.{IndexLeft}
use Rattle.stage2_range.specs.Registry.{has_address}
use Rattle.stage2.specs.Policy.{regions_held}
use Rattle.lent_words.specs.Words.{word_at, each}
use Rattle.lent_policy.specs.Layout.{region_count_at, region_at, policy_at}
use Rattle.lent_policy.proofs.find_place.Given as goal

abbrev pub invariant-loop-place : goal.invariant-loop-place
invariant-loop-place l =
    IndexLeft (has_address l.ipa) (each (region_at l.policy) 0 16) (min (word_at l.policy region_count_at) 16) l.place
    (first_index (has_address l.ipa) (regions_held (policy_at l.policy)))

abbrev pub decreases-loop-place : goal.decreases-loop-place
decreases-loop-place l = l.held - l.place
