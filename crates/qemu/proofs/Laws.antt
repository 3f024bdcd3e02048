-- Laws on the counter of the filtered MMIO page. Assumes nothing.
use Rattle.std.proofs.Common.{◌≡◌, ℕ, ◌+◌, ◌%◌, ◌^◌, Bool, true, false, cond, ◌&&◌, eqb, sym, refl, true≢false, arith, eqb-true}
use Rattle.stage2_range.specs.declared.MemoryReadAccess.{MemoryReadAccess}
use Rattle.stage2_range.specs.declared.MemoryReadResult.TheVariants.{Value, Fault}
use Rattle.qemu.specs.FilteredMmio.{is64, page_word, loads_counter, counter_after, read_filtered_mmio}
use Rattle.bits.specs.Bits.{FitsWord}

counter_word_lem : (offset counter : ℕ) (is64 : Bool) → (is64 && eqb offset 16) ≡ true → cond is64 (page_word offset counter) Fault ≡ Value counter
unfolding page_word
counter_word_lem offset counter true e = rw (eqb-true offset 16 e)
counter_word_lem offset counter false e = absurd (true≢false (sym e))

-- a load of the counter word answers the counter as it was, and makes it grow by 1 modulo 2^64
pub counter_loaded : (access : MemoryReadAccess) (counter : ℕ) → loads_counter access ≡ true
    → read_filtered_mmio access counter ≡ record { result = Value counter; counter = (counter + 1) % 2 ^ 64 }
unfolding read_filtered_mmio loads_counter counter_after
counter_loaded access counter e = rw (counter_word_lem access.offset counter (is64 access.width) e, e)

other_word : (offset counter counter' : ℕ) (is64 : Bool) → (is64 && eqb offset 16) ≡ false
    → cond is64 (page_word offset counter) Fault ≡ cond is64 (page_word offset counter') Fault
unfolding page_word
other_word offset counter counter' true e = rw e
other_word offset counter counter' false e = refl

-- any other load answers the same at every counter, and leaves it
pub counter_kept : (access : MemoryReadAccess) (counter counter' : ℕ) → loads_counter access ≡ false
    → ((read_filtered_mmio access counter).result ≡ (read_filtered_mmio access counter').result) × ((read_filtered_mmio access counter).counter ≡ counter)
unfolding read_filtered_mmio loads_counter counter_after
counter_kept access counter counter' e = (other_word access.offset counter counter' (is64 access.width) e, rw e)

-- the counter fits a word, whether it grows or not
pub counter_fits : (loads : Bool) (counter : ℕ) → FitsWord counter → FitsWord (counter_after loads counter)
unfolding counter_after
counter_fits true counter h = omega arith
counter_fits false counter h = h
