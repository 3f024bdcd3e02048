use Rattle.memory_access.specs.Transfer.{extend_read_result}
use Rattle.memory_access.proofs.MemoryAccess.extend_read_result.Goals as goal

pub returns : goal.returns
unfolding extend_read_result
returns c = c.extend_read_result.ensures
