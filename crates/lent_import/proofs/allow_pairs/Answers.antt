use mathlib.Core.Path.{sym, ◌∙◌}
use native.Mathlib.Omega.{arith}
use Rattle.lent_import.proofs.Laws.{allow_start, one_refused, one_allowed}
use Rattle.lent_import.proofs.allow_pairs.Goals as goal

pub loop-pair-init : goal.loop-pair-init
loop-pair-init c = allow_start _ _ (record { long = omega arith; bytes = c.are_bytes.ensures })

pub returns-then-number-ne0 : goal.returns-then-number-ne0
returns-then-number-ne0 c = let r = c.allow_range-number.ensures.0 in (r ∙ one_refused c.args.attributes _ _ _ c.in-Some.ensures c.loop-pair.invariant (λ z. c.if-number-ne0.true (r ∙ z)), λ z. absurd (c.if-number-ne0.true z))

pub loop-pair-preserved : goal.loop-pair-preserved
loop-pair-preserved c = rw c.allow_range-number.ensures.1 (one_allowed c.args.attributes _ _ _ c.in-Some.ensures c.loop-pair.invariant (omega arith) (omega arith) (omega arith) (sym c.allow_range-number.ensures.0 ∙ c.if-number-ne0.false))
