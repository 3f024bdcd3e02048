-- The definitions of this crate, opened together, for proofs by computation. Assumes nothing.
use Rattle.bits.specs.Bits.{bits_at, bit_at, low_bits, with_bits}

unfoldable pub opened : Unit {0}
unfolding bits_at bit_at low_bits with_bits
opened = tt
