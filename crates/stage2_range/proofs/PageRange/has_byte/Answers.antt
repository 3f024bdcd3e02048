use mathlib.Core.Path.{refl}
use Rattle.stage2_range.specs.Ranges.{has_byte}
use Rattle.stage2_range.proofs.PageRange.has_byte.Goals as goal

pub returns : goal.returns
unfolding has_byte
returns c = refl
