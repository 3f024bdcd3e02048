-- The definitions of this crate, opened together, for proofs by computation. Assumes nothing.
use Rattle.lists.specs.Lists.{held, in_first_places}

unfoldable pub opened : Unit {0}
unfolding held in_first_places
opened = tt
