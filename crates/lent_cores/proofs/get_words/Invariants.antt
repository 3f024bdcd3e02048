-- The loop's invariant: the words before `i` are read.
use Prim.Native.Nat.{◌+◌}
use Rattle.lent_words.specs.Words.{word_at}
use Rattle.lent_words.proofs.Words.{Read}
use Rattle.lent_cores.proofs.get_words.Given as goal

abbrev pub invariant-loop-i : goal.invariant-loop-i
invariant-loop-i g l = Read (λ j. word_at l.bytes (l.from + j)) g.row.N l.words l.i
