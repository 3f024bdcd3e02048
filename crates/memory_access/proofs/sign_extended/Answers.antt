-- One law over the width answers both branches; `bits_range` says that each width has from 1 to 64 bits.
use native.Mathlib.Omega.{arith}
use Rattle.memory_access.specs.Syndrome.{bits_of}
use Rattle.memory_access.proofs.Laws.{bits_range, sign_clear, sign_set, sign_fits}
use Rattle.memory_access.proofs.sign_extended.Goals as goal

pub overflow_add-result : goal.overflow_add-result
overflow_add-result c =
    let a = c.args in
    rw (
      c.low_bits-low.ensures,
      c.mask-mask.ensures,
    ) (record { fits = sign_fits (bits_of a.width) a.value (bits_range a.width) })

pub returns-then-low-mask : goal.returns-then-low-mask
returns-then-low-mask c =
    let a = c.args in
    rw c.low_bits-low.ensures (sign_clear (bits_of a.width) a.value (bits_range a.width) (omega arith))

pub returns-else-low-mask : goal.returns-else-low-mask
returns-else-low-mask c =
    let a = c.args in
    rw (
      c.low_bits-low.ensures,
      c.mask-mask.ensures,
    ) (sign_set (bits_of a.width) a.value (bits_range a.width) (omega arith))
