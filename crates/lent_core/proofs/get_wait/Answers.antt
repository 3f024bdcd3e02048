use Prim.Native.Nat.{◌+◌, ◌*◌}
use mathlib.Core.Path.{sym, ap, ◌∙◌}
use lib.Dec.{ltb}
use Rattle.lists.proofs.Laws.{cond_map}
use Rattle.lent_words.specs.Words.{word_at}
use Rattle.exceptions.specs.declared.Core.{Core}
use Rattle.exceptions.specs.Registers.{fresh_core}
use Rattle.lent_cores.specs.Layout.{wait_by_code, core_at, core_length, wait_word}
use Rattle.lent_core.proofs.InPlace.{of_core}
use Rattle.lent_core.proofs.get_wait.Goals as goal

pub returns : goal.returns
unfolding fresh_core core_at wait_by_code
returns c = let a = c.args in
    c.wait_of.ensures
    ∙ ap wait_by_code c.get_at.ensures
    ∙ cond_map wait_by_code (ltb 7 a.core) 0 (word_at a.cores.now (core_length * a.core + wait_word))
    ∙ sym (of_core (λ (one : Core). one.wait) a.cores.now a.core)
