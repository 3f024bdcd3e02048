-- The definitions of this crate and of those below it, opened together, for proofs by computation. Assumes nothing.
use Rattle.lists.proofs.Opened as lists
use Rattle.stage2_range.specs.Ranges.{has_byte, shares_byte, overlaps}
use Rattle.stage2_range.specs.Registry.{find_region, insert_region}

unfoldable pub opened : Unit {0}
unfolding lists.opened has_byte shares_byte overlaps find_region insert_region
opened = tt
