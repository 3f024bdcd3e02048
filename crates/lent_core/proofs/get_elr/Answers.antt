use mathlib.Core.Path.{sym, ◌∙◌}
use Rattle.exceptions.specs.declared.Core.{Core}
use Rattle.exceptions.specs.Registers.{fresh_core}
use Rattle.lent_cores.specs.Layout.{core_at}
use Rattle.lent_core.proofs.InPlace.{of_core}
use Rattle.lent_core.proofs.get_elr.Goals as goal

pub returns : goal.returns
unfolding fresh_core core_at
returns c = let a = c.args in c.get_at.ensures ∙ sym (of_core (λ (one : Core). one.elr) a.cores.now a.core)
