-- Bits of a number, the lowest being bit 0. Assumes nothing.
use Rattle.std.specs.Prelude.{ℕ, ◌+◌, ◌*◌, ◌/◌, ◌%◌, ◌^◌, ◌<◌, Bool, eqb}

-- the `n` bits of `x` from bit `k` on
unfoldable pub bits_at : ℕ → ℕ → ℕ → ℕ
bits_at x k n = x / 2 ^ k % 2 ^ n

-- bit `k` of `x` is set
unfoldable pub bit_at : ℕ → ℕ → Bool
bit_at x k = eqb (bits_at x k 1) 1

-- the low `n` bits of `x`
unfoldable pub low_bits : ℕ → ℕ → ℕ
low_bits n x = x % 2 ^ n

-- a number fits a word
abbrev pub FitsWord : ℕ → Type 0
FitsWord w = w < 2 ^ 64

-- `x` with `v` as its `n` bits from bit `k` on, its other bits as they were
unfoldable pub with_bits : ℕ → ℕ → ℕ → ℕ → ℕ
with_bits x k n v = x / 2 ^ (n + k) * 2 ^ (n + k) + v * 2 ^ k + x % 2 ^ k
