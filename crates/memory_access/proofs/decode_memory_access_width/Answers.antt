use native.Mathlib.Omega.{arith}
use Rattle.bits.proofs.Laws.{field}
use Rattle.memory_access.proofs.Laws.{widest}
use Rattle.memory_access.proofs.decode_memory_access_width.Goals as goal

pub returns-in-0 : goal.returns-in-0
returns-in-0 c = rw (← field c.args.iss 22 2, c.in-0.is)

pub returns-in-1 : goal.returns-in-1
returns-in-1 c = rw (← field c.args.iss 22 2, c.in-1.is)

pub returns-in-2 : goal.returns-in-2
returns-in-2 c = rw (← field c.args.iss 22 2, c.in-2.is)

pub returns-in_default : goal.returns-in_default
returns-in_default c = rw (← field c.args.iss 22 2) (widest _ (omega arith) (omega arith) (omega arith))
