use native.Mathlib.Omega.{arith}
use Rattle.lent_words.proofs.Words.{stored_next, stored_done}
use Rattle.lent_cores.proofs.Results.{result-written}
use Rattle.lent_core.proofs.InPlace.{handed_out, length_values}
use Rattle.lent_core.proofs.put_forwarded.Goals as goal

pub loop-i-preserved : goal.loop-i-preserved
loop-i-preserved c =
    let a = c.args in
    let fits = length_values a.cores.now a.core a.call in
    stored_next c.loop-i.invariant (omega (arith, fits)) 0 _ (rw (← c.forwarded_at.ensures) c.put_word-in-loop-i.ensures)

pub returns : goal.returns
returns c =
    let a = c.args in
    let fits = length_values a.cores.now a.core a.call in
    rw (
      c.put_word-2.ensures,
      stored_done c.loop-i.invariant (omega (arith, fits)),
      c.put_word.ensures,
      c.trap_kind.ensures,
    )
    (result-written (handed_out a.cores.now a.core a.call) _ (omega arith) fits)
