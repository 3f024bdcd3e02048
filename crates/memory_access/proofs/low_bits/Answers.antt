use Rattle.bits.proofs.Laws.{low}
use Rattle.memory_access.specs.Syndrome.{bits_of}
use Rattle.memory_access.proofs.low_bits.Goals as goal

pub returns : goal.returns
returns c = rw c.mask.ensures (low c.args.value (bits_of c.args.width))
