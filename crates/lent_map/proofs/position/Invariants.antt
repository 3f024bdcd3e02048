use Rattle.lists.specs.Lists.{first_index}
use Rattle.lists.proofs.Laws.{IndexLeft}
use Rattle.lent_map.specs.Layout.{map_at, fits_sought}
use Rattle.lent_map.proofs.position.Given as goal

abbrev pub invariant-loop-place : goal.invariant-loop-place
invariant-loop-place l = IndexLeft (fits_sought l.sought) (map_at l.map).items 8 l.place (first_index (fits_sought l.sought) (map_at l.map).items)
