use native.Mathlib.Omega.{arith}
use lib.Dec.{lit≤}
use Rattle.bits.proofs.Laws.{low_cleared}
use Rattle.stage2_range.specs.Ranges.{align_down}
use Rattle.stage2_range.proofs.align_down_to_page.Goals as goal

pub returns : goal.returns
unfolding align_down
returns c = low_cleared 64 12 c.args.address (lit≤ tt) (omega arith)
