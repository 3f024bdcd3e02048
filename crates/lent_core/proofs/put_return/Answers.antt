-- Six words are stored; the others stand as the core would be stored (core-put).
use mathlib.Core.Path.{refl}
use mathlib.Core.List.{[], ◌∷◌}
use native.Mathlib.Omega.{arith}
use borrow.Author.Tests.{le-ltb}
use Rattle.exceptions.specs.Registers.{with_return}
use Rattle.lent_cores.specs.Layout.{core_at, elr_word, spsr_word, elr_el1_word, spsr_el1_word, far_el1_word, esr_el1_word}
use Rattle.lent_core.proofs.InPlace.{core-put}
use Rattle.lent_core.proofs.put_return.Goals as goal

pub returns-then-core-lt8 : goal.returns-then-core-lt8
unfolding core_at
returns-then-core-lt8 c =
    let a = c.args in
    let to = a.to in
    let el1 = to.el1 in
    rw (
      le-ltb 7 a.core (omega arith),
      c.put_word-then-core-lt8-5.ensures,
      c.put_word-then-core-lt8-4.ensures,
      c.put_word-then-core-lt8-3.ensures,
      c.put_word-then-core-lt8-2.ensures,
      c.put_word-then-core-lt8.ensures,
      c.put_word.ensures,
    )
    (core-put a.cores.now a.core
    (λ one. (elr_word, to.elr) ∷ (spsr_word, to.spsr) ∷ (elr_el1_word, el1.elr) ∷ (spsr_el1_word, el1.spsr) ∷ (far_el1_word, el1.far) ∷ (esr_el1_word, el1.esr) ∷ [])
    (λ one. with_return one to.elr to.spsr el1)
    c.are_bytes.ensures (omega arith) refl (omega arith))
