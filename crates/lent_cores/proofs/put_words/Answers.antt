use Rattle.lent_words.proofs.Words.{stored_next, stored_done}
use Rattle.lent_cores.proofs.put_words.Goals as goal

pub loop-i-preserved : goal.loop-i-preserved
loop-i-preserved c = stored_next c.loop-i.invariant c.loop-i-test.true 0 _ c.put_word.ensures

pub returns : goal.returns
returns c = stored_done c.loop-i.invariant c.loop-i-test.false
