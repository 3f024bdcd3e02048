use mathlib.Core.Path.{refl}
use Rattle.lent_policy.proofs.States.{fresh_policy_lem}
use Rattle.ritm.proofs.ritm_fresh_policy.Goals as goal

pub returns : goal.returns
returns c = (refl, refl, fresh_policy_lem)
