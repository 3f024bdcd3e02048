-- The loop's invariant: the words before the place are compared.
use Rattle.std.proofs.Common.{◌≡◌, drop, fold}
use Rattle.records.specs.Records.{expected}
use Rattle.records.proofs.Record.expect_all.Given as goal

abbrev pub invariant-loop-word : goal.invariant-loop-word
invariant-loop-word l = fold expected l.record (drop l.word-index l.words) ≡ fold expected l.initial.record l.words
