-- The signed number of a word is its two's complement. Assumes nothing.
use Rattle.std.proofs.Common.{ℕ, ◌≡◌, ◌^◌, ◌<◌, arith}
use Rattle.std.specs.Int.{cast_signed, w32}
use Rattle.memory_access.specs.Transfer.{twos_complement}
use Rattle.memory_access.proofs.Laws.{complement}

pub signed_word : (n : ℕ) → n < 2 ^ 32 → cast_signed w32 n ≡ twos_complement 32 n
signed_word n h = rw (complement 32 n (omega arith) h) (grind arith)
