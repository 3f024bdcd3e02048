use Rattle.std.proofs.Common.{◌+◌, ◌-◌, ◌*◌, ◌/◌}
use Rattle.fdt.proofs.Laws.{EntriesLeft}
use Rattle.fdt.specs.Blob.{list_ends}
use Rattle.fdt.proofs.reservations_end.Given as goal

abbrev pub invariant-loop-entry : goal.invariant-loop-entry
invariant-loop-entry l = EntriesLeft l.s (l.from + 16 * l.entry) ((l.total - l.from) / 16 - l.entry) (list_ends l.s l.from ((l.total - l.from) / 16))
