use mathlib.Core.Path.{◌≡◌}
use lib.ListN.{length}
use Rattle.fdt.specs.Blob.{pairs_left}
use Rattle.memory_import.specs.Import.{allow_calls}
use Rattle.memory_import.proofs.Laws.{all_or_none}
use Rattle.memory_import.proofs.allow_pairs.Given as goal

abbrev pub invariant-loop-pair : goal.invariant-loop-pair
invariant-loop-pair l = all_or_none l.policy l.next (allow_calls l.attributes (pairs_left l.blob l.cursor)) ≡ all_or_none l.policy l.policy (allow_calls l.attributes (pairs_left l.blob l.initial.cursor))

abbrev pub decreases-loop-pair : goal.decreases-loop-pair
decreases-loop-pair l = length (pairs_left l.blob l.cursor)
