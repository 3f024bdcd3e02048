-- The loop's invariant: the words before the place are stored.
use Rattle.lent_words.specs.Words.{with_word}
use Rattle.lent_words.proofs.Words.{Stored}
use Rattle.lent_words.proofs.put_words.Given as goal

abbrev pub invariant-loop-place : goal.invariant-loop-place
invariant-loop-place l = Stored with_word l.initial.res l.words l.res l.place
