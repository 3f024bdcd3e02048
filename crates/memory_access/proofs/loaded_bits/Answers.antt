use Rattle.memory_access.specs.Transfer.{loaded}
use Rattle.memory_access.proofs.loaded_bits.Goals as goal

pub returns-then-sign_extend : goal.returns-then-sign_extend
unfolding loaded
returns-then-sign_extend c = rw c.if-sign_extend.true c.sign_extended.ensures

pub returns-else-sign_extend : goal.returns-else-sign_extend
unfolding loaded
returns-else-sign_extend c = rw c.if-sign_extend.false c.low_bits.ensures
