-- One word is stored, the code of the wait; the others stand as the core would be stored (core-put).
use Prim.Native.Nat.{◌+◌, ◌*◌}
use mathlib.Core.Path.{refl}
use mathlib.Core.List.{[], ◌∷◌}
use native.Mathlib.Omega.{arith}
use borrow.Author.Tests.{le-ltb}
use Rattle.lent_words.specs.Words.{word_at, kept_code}
use Rattle.forwarded_call.specs.ForwardedCall.{with_wait}
use Rattle.lent_cores.specs.Layout.{wait_number, core_at, core_length, wait_word, wait_codes}
use Rattle.lent_core.proofs.InPlace.{core-put}
use lib.ListN.{length}
use Rattle.lent_core.proofs.put_wait.Goals as goal

pub returns-then-core-lt8 : goal.returns-then-core-lt8
unfolding core_at with_wait
returns-then-core-lt8 c = let a = c.args in
    rw (
      le-ltb 7 a.core (omega arith),
      c.put_word.ensures,
      c.kept_code-code.ensures,
      c.wait_number.ensures,
      c.get_word.ensures,
    )
    (core-put a.cores.now a.core
    (λ one. (wait_word, kept_code (length wait_codes) (word_at a.cores.now (core_length * a.core + wait_word)) (wait_number a.wait)) ∷ [])
    (λ one. with_wait one a.wait)
    c.are_bytes.ensures (omega arith) refl (omega arith))
