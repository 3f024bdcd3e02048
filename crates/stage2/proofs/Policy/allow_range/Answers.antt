use mathlib.Core.Path.{sym, ◌∙◌}
use Rattle.stage2.specs.Policy.{allow_range}
use Rattle.stage2.proofs.Laws.{allow_unfit}
use Rattle.stage2.proofs.Policy.allow_range.Goals as goal

pub returns-in-Err : goal.returns-in-Err
unfolding allow_range
returns-in-Err c =
    let a = c.args in
    rw (c.refuse.ensures, allow_unfit a.self a.base_ipa a.size _ (sym c.validate_range.ensures ∙ c.in-Err.is))
