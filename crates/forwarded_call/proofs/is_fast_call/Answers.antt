use mathlib.Core.Path.{sym, ◌∙◌}
use lib.Dec.{lit≤}
use Rattle.bits.proofs.Laws.{bit_test, low_bit}
use Rattle.forwarded_call.proofs.is_fast_call.Goals as goal

pub returns : goal.returns
returns c = bit_test c.args.x0 31 ∙ sym (low_bit 32 c.args.x0 31 (lit≤ tt))
