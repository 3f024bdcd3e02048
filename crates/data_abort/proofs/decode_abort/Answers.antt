use Rattle.std.proofs.Common.{arith}
use lib.Bits.{mask_lt}
use Rattle.bits.proofs.Laws.{low}
use Rattle.data_abort.proofs.decode_abort.Goals as goal

pub overflow_cast-iss : goal.overflow_cast-iss
overflow_cast-iss c = omega (arith, mask_lt c.args.trap.esr 25)

pub returns : goal.returns
returns c = rw (← low c.args.trap.esr 25) c.decode.ensures
