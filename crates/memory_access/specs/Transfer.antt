-- The value that an access moves between its register and memory (document 01, "Access"). Assumes nothing.
use Rattle.std.specs.Prelude.{Bool, cond, ℕ, suc, ◌+◌, ◌-◌, ◌%◌, ◌^◌, ℤ, pos, negsuc, None, Option, Some}
use Rattle.bits.specs.Bits.{bit_at, low_bits}
use Rattle.memory_access.specs.declared.MemoryAccess.{MemoryAccess}
use Rattle.memory_access.specs.Syndrome.{bits_of}

-- "those bits are read as a two's complement number and extended to 64": the low `w` bits, less 2^w where bit w - 1 is set, modulo 2^64
unfoldable pub sign_extension : ℕ → ℕ → ℕ
sign_extension w v = cond (bit_at v (w - 1)) ((low_bits w v + (2 ^ 64 - 2 ^ w)) % 2 ^ 64) (low_bits w v)

-- the number that `n`, of `w` bits, is in two's complement; `negsuc k` is -(k + 1)
unfoldable pub twos_complement : ℕ → ℕ → ℤ
twos_complement w n = cond (bit_at n (w - 1)) (negsuc (2 ^ w - suc n)) (pos n)

-- "A load result keeps the low access-width bits", extended with SSE set
unfoldable pub loaded : ℕ → Bool → ℕ → ℕ
loaded w sse v = cond sse (sign_extension w v) (low_bits w v)

-- "with SF clear only the low 32 bits stay"
unfoldable pub at_register_width : Bool → ℕ → ℕ
at_register_width sf v = cond sf v (low_bits 32 v)

-- what a load puts into its register, of the value read
unfoldable pub extend_read_result : MemoryAccess → ℕ → ℕ
extend_read_result a v = at_register_width a.register_width_64 (loaded (bits_of a.width) a.sign_extend v)

-- the same of what was decoded, 0 where the syndrome describes no access
abbrev pub extended_value : Option MemoryAccess → ℕ → ℕ
extended_value (Some a) v = extend_read_result a v
extended_value None v = 0

-- "a store of Rt's low bits at the access width"
unfoldable pub store_value : MemoryAccess → ℕ → ℕ
store_value a v = low_bits (bits_of a.width) v
