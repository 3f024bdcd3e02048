-- The loop's invariant: the words before `i` are stored.
use Prim.Native.Nat.{◌+◌}
use Rattle.lent_words.specs.Words.{with_word}
use Rattle.lent_words.proofs.Words.{Stored}
use Rattle.lent_cores.proofs.put_words.Given as goal

abbrev pub invariant-loop-i : goal.invariant-loop-i
invariant-loop-i l = Stored (λ b j w. with_word b (l.from + j) w) l.initial.bytes l.words l.bytes l.i
