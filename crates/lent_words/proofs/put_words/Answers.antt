use mathlib.Core.Path.{refl, ◌∙◌}
use mathlib.Core.List.{[]}
use Rattle.lent_words.proofs.Words.{written-whole, stored_next, stored_done}
use Rattle.lent_words.proofs.put_words.Goals as goal

pub loop-place-preserved : goal.loop-place-preserved
loop-place-preserved c = stored_next c.loop-place.invariant c.loop-place-test.true 0 _ c.put_word.ensures

pub returns : goal.returns
returns c = stored_done c.loop-place.invariant c.loop-place-test.false ∙ written-whole c.args.words.now [] c.args.res.now 0 refl c.requires
