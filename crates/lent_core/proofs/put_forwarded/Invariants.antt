-- The kind, then the loop's invariant: the values before `i` are stored; then the hint.
use Prim.Native.Nat.{◌+◌}
use Rattle.lent_words.specs.Words.{with_word}
use Rattle.lent_words.proofs.Words.{Stored}
use Rattle.lent_core.proofs.InPlace.{handed_out}
use Rattle.lent_core.proofs.put_forwarded.Given as goal

abbrev pub invariant-loop-i : goal.invariant-loop-i
invariant-loop-i l = Stored (λ b j w. with_word b (1 + j) w) l.initial.res (handed_out l.cores l.core l.call).values l.res l.i
