use mathlib.Core.Path.{refl}
use Rattle.hypervisor.specs.Cores.{fresh_cores}
use Rattle.lent_cores.proofs.States.{fresh_cores_lem, fresh_counter}
use Rattle.ritm.proofs.ritm_fresh_cores.Goals as goal

pub returns : goal.returns
unfolding fresh_cores
returns c = (refl, refl, fresh_cores_lem, fresh_counter)
