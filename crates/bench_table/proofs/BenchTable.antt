-- Every row of the bench table holds. Assumes nothing.
use mathlib.Core.Path.{◌≡◌, refl}
use mathlib.Core.Bool.{true}
use Rattle.hypervisor.proofs.Opened as hypervisor
use Rattle.bench_table.specs.States.{one_region, saved_cores, trapped, trapped_through, replied}
use Rattle.bench_table.specs.BenchTable.{holds, bench_table}

pub bench_table-holds : holds bench_table ≡ true
unfolding hypervisor.opened one_region saved_cores trapped trapped_through replied
bench_table-holds = refl
