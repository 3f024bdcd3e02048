use Prim.Native.Nat.{◌+◌}
use native.Mathlib.Omega.{arith}
use mathlib.Core.Path.{◌≡◌}
use lib.ListN.{length}
use Rattle.lent_words.specs.Words.{word_at}
use Rattle.lent_words.proofs.Words.{length-each, stored_next, stored_done}
use Rattle.lent_reply.proofs.put_values.Goals as goal

pub loop-i-preserved : goal.loop-i-preserved
loop-i-preserved g c =
    let long : length c.get_words-read.result ≡ g.row.COUNT =
    rw c.get_words-read.ensures (length-each (λ j. word_at c.args.values.now (c.args.from + j)) 0 g.row.COUNT) in
    stored_next c.loop-i.invariant (omega (arith, long, c.loop-i-test.true)) 0 _ c.put_word.ensures

pub returns : goal.returns
returns g c =
    let long : length c.get_words-read.result ≡ g.row.COUNT =
    rw c.get_words-read.ensures (length-each (λ j. word_at c.args.values.now (c.args.from + j)) 0 g.row.COUNT) in
    rw (← c.get_words-read.ensures) (stored_done c.loop-i.invariant (omega (arith, long, c.loop-i-test.false)))
