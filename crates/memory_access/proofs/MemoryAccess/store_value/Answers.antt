use Rattle.memory_access.specs.Transfer.{store_value}
use Rattle.memory_access.proofs.MemoryAccess.store_value.Goals as goal

pub returns : goal.returns
unfolding store_value
returns c = c.low_bits.ensures
