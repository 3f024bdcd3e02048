use native.Mathlib.Omega.{arith}
use mathlib.Core.Path.{refl}
use Rattle.std.proofs.lemmas.List.{length-replicate}
use Rattle.lent_words.proofs.Words.{read_next, read_done}
use Rattle.lent_cores.proofs.Records.{word_past}
use mathlib.Core.Path.{◌∙◌}
use Rattle.lent_cores.proofs.get_words.Goals as goal

pub loop-i-init : goal.loop-i-init
loop-i-init g c = record { within = omega arith; long = length-replicate g.row.N 0; done = refl }

pub loop-i-preserved : goal.loop-i-preserved
loop-i-preserved g c = read_next c.loop-i.invariant c.loop-i-test.true _ (c.get_word.ensures ∙ word_past _ _ _ (omega arith) c.saturating_add.ensures)

pub returns : goal.returns
returns g c = read_done c.loop-i.invariant c.loop-i-test.false
