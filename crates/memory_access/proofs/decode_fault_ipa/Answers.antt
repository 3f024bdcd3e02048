use mathlib.Core.Path.{ap}
use Prim.Native.Nat.{ℕ}
use Rattle.memory_access.specs.Syndrome.{fault_ipa}
use Rattle.memory_access.proofs.Laws.{page-and_offset}
use Rattle.memory_access.proofs.decode_fault_ipa.Goals as goal

pub returns : goal.returns
unfolding fault_ipa
returns c = ap (λ (n : ℕ). record { 0 = n }) (page-and_offset c.args.fipa.0 c.args.far)
