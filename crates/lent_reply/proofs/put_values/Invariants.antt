-- The loop's invariant: the values before `i` are stored.
use Prim.Native.Nat.{◌+◌}
use Rattle.lent_words.specs.Words.{with_word}
use Rattle.lent_words.proofs.Words.{Stored}
use Rattle.lent_reply.proofs.put_values.Given as goal

abbrev pub invariant-loop-i : goal.invariant-loop-i
invariant-loop-i g l = Stored (λ b j w. with_word b (l.at + (l.from + j)) w) l.initial.cores l.value-items l.cores l.i
