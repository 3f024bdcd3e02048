use Rattle.bits.proofs.Laws.{bit_test}
use Rattle.memory_access.proofs.decode_memory_access_register_width_64.Goals as goal

pub returns : goal.returns
returns c = bit_test c.args.iss 15
