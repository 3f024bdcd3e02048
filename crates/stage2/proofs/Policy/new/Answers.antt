use Rattle.stage2.specs.Policy.{fresh_policy}
use Rattle.stage2.proofs.Policy.new.Goals as goal

pub returns : goal.returns
unfolding fresh_policy
returns c = rw (c.new-region.ensures, c.new-range.ensures)
