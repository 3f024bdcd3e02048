use Rattle.bits.proofs.Laws.{field}
use Rattle.memory_access.proofs.decode_memory_access_register_index.Goals as goal

pub returns : goal.returns
returns c = field c.args.iss 16 5
