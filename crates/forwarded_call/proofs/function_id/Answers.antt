use native.Mathlib.Omega.{arith}
use Rattle.bits.proofs.Laws.{low, low_fits, bits_cleared}
use Rattle.forwarded_call.specs.ForwardedCall.{w0, function_id_of}
use Rattle.forwarded_call.proofs.function_id.Goals as goal

pub returns-then-not-is_fast_call : goal.returns-then-not-is_fast_call
unfolding function_id_of
returns-then-not-is_fast_call c =
    rw (
      ← c.is_fast_call.ensures,
      c.if-not-is_fast_call.true,
    )
    (low c.args.x0 32)

pub returns : goal.returns
unfolding function_id_of
returns c =
    let x0 = c.args.x0 in
    rw (
      ← c.is_fast_call.ensures,
      c.if-not-is_fast_call.false,
      low x0 32,
    )
    (bits_cleared 47 1 16 (w0 x0) (omega (arith, low_fits 32 x0)))
