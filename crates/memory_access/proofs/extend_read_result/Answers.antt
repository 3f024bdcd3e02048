use Rattle.memory_access.specs.Transfer.{at_register_width}
use Rattle.bits.proofs.Laws.{low}
use Rattle.memory_access.proofs.extend_read_result.Goals as goal

pub returns-then-register_width_64 : goal.returns-then-register_width_64
unfolding at_register_width
returns-then-register_width_64 c = rw c.if-register_width_64.true c.loaded_bits-extended.ensures

pub returns-else-register_width_64 : goal.returns-else-register_width_64
unfolding at_register_width
returns-else-register_width_64 c = rw (c.if-register_width_64.false, c.loaded_bits-extended.ensures) (low _ 32)
