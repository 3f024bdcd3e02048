use mathlib.Core.Path.{refl}
use mathlib.Core.List.{[], ◌∷◌}
use native.Mathlib.Omega.{arith}
use Rattle.exceptions.specs.Registers.{advance_pc, next_instruction}
use Rattle.lent_cores.specs.Layout.{core_at, elr_word}
use Rattle.lent_core.proofs.InPlace.{any_put}
use Rattle.lent_core.proofs.put_advanced.Goals as goal

pub returns : goal.returns
unfolding advance_pc core_at
returns c = let a = c.args in
    rw (c.put_past.ensures, c.get_elr-elr.ensures)
    (any_put a.cores.now a.core (λ one. (elr_word, next_instruction one.elr) ∷ []) advance_pc c.are_bytes.ensures (omega arith, tt) refl)
