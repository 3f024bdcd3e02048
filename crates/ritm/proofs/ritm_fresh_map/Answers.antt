use mathlib.Core.Path.{refl}
use Rattle.lent_map.proofs.States.{fresh_map}
use Rattle.ritm.proofs.ritm_fresh_map.Goals as goal

pub returns : goal.returns
returns c = (refl, refl, fresh_map)
