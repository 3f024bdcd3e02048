use Rattle.lent_policy.specs.Layout.{region_at}
use Rattle.lent_policy.proofs.get_region_base.Goals as goal

pub returns : goal.returns
unfolding region_at
returns c = c.get_word.ensures
