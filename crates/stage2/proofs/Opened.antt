-- The definitions of this crate and of those below it, opened together, for proofs by computation. Assumes nothing.
use Rattle.stage2_range.proofs.Opened as stage2-range
use Rattle.stage2.specs.Policy.{fresh_policy, allow_answer, add_allowed, allow_range, handle_answer, add_region, handle_range, release_answer, without_allowed, without_region, release_range}

unfoldable pub opened : Unit {0}
unfolding stage2-range.opened fresh_policy allow_answer add_allowed allow_range handle_answer add_region handle_range release_answer without_allowed without_region release_range
opened = tt
