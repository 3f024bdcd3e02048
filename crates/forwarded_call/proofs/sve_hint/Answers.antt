use lib.Dec.{lit≤}
use Rattle.bits.proofs.Laws.{field, low_field}
use Rattle.forwarded_call.specs.ForwardedCall.{sve_hint_of}
use Rattle.forwarded_call.proofs.sve_hint.Goals as goal

pub returns-then-not-is_fast_call : goal.returns-then-not-is_fast_call
unfolding sve_hint_of
returns-then-not-is_fast_call c =
    rw (
      ← c.is_fast_call.ensures,
      c.if-not-is_fast_call.true,
    )

pub returns : goal.returns
unfolding sve_hint_of
returns c =
    let x0 = c.args.x0 in
    rw (
      ← c.is_fast_call.ensures,
      c.if-not-is_fast_call.false,
      low_field 32 x0 16 1 (lit≤ tt),
    )
    (field x0 16 1)
