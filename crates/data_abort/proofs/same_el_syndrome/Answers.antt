use Rattle.std.proofs.Common.{arith, lit<}
use Rattle.bits.proofs.Laws.{bits_replaced}
use Rattle.data_abort.proofs.same_el_syndrome.Goals as goal

pub returns : goal.returns
returns c = bits_replaced 32 6 26 c.args.esr 0x25 (omega arith) (lit< tt)
