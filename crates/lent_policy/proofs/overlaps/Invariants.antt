-- The loop's invariant: whether a record overlaps is decided by those not yet passed.
use Prim.Native.Nat.{◌+◌, ◌*◌, min}
use Rattle.lent_words.specs.Words.{word_at}
use Rattle.lent_policy.proofs.Search.{RecordsLeft}
use Rattle.lent_policy.proofs.overlaps.Given as goal

abbrev pub invariant-loop-place : goal.invariant-loop-place
invariant-loop-place g l =
    RecordsLeft l.policy l.bytes (λ k. g.row.FIRST + g.row.WORDS * k) (min (word_at l.policy (g.row.FIRST + g.row.WORDS * g.row.LIMIT)) g.row.LIMIT) l.place
