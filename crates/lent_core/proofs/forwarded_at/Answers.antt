use native.Mathlib.Omega.{arith}
use mathlib.Core.Path.{sym, ◌∙◌}
use Rattle.lent_core.proofs.InPlace.{value_within, value-past}
use Rattle.lent_core.proofs.forwarded_at.Goals as goal

pub returns-then-index-registers_for : goal.returns-then-index-registers_for
returns-then-index-registers_for c =
    let a = c.args in
    c.get_at.ensures
    ∙ sym (value_within a.cores.now a.core a.call a.index (λ e. omega arith) (omega (arith, c.registers_for.ensures)))

pub returns-else-index-registers_for : goal.returns-else-index-registers_for
returns-else-index-registers_for c =
    let a = c.args in
    sym (value-past a.cores.now a.core a.call a.index (omega (arith, c.registers_for.ensures)))
