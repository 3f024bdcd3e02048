use lib.ListN.{length}
use Rattle.fdt.specs.Blob.{pairs_left}
use Rattle.memory_import.specs.Import.{allow_calls}
use Rattle.lent_import.proofs.Laws.{Allowing}
use Rattle.lent_import.proofs.allow_pairs.Given as goal

abbrev pub invariant-loop-pair : goal.invariant-loop-pair
invariant-loop-pair l = Allowing l.initial.policy (allow_calls l.attributes (pairs_left l.blob l.initial.cursor)) l.policy (allow_calls l.attributes (pairs_left l.blob l.cursor))

abbrev pub decreases-loop-pair : goal.decreases-loop-pair
decreases-loop-pair l = length (pairs_left l.blob l.cursor)
