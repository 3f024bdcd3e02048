use Rattle.stage2_range.proofs.Ranges.{shares_all}
use Rattle.stage2_range.proofs.page_ranges_overlap.Goals as goal

pub returns : goal.returns
returns c = shares_all _ _
