-- The filtered MMIO page (document 01, "Filtered page") and its counter. Assumes nothing.
use Rattle.std.specs.Prelude.{ℕ, ◌+◌, ◌%◌, ◌^◌, Bool, cond, ◌&&◌, List, [], ◌∷◌, ◌==◌, nat_eq}
use Rattle.lists.specs.Lists.{first_of, any_of}
use Rattle.memory_access.specs.Syndrome.{bits_of}
use Rattle.memory_access.specs.declared.MemoryAccessWidth.{MemoryAccessWidth}
use Rattle.stage2_range.specs.declared.MemoryReadAccess.{MemoryReadAccess}
use Rattle.stage2_range.specs.declared.MemoryReadResult.{MemoryReadResult}
use Rattle.stage2_range.specs.declared.MemoryReadResult.TheVariants as read
use Rattle.stage2_range.specs.declared.MemoryWriteAccess.{MemoryWriteAccess}
use Rattle.stage2_range.specs.declared.MemoryWriteResult.{MemoryWriteResult}
use Rattle.stage2_range.specs.declared.MemoryWriteResult.TheVariants as write
use Rattle.qemu.specs.declared.FilteredRead.{FilteredRead}

-- an entry of the page: a word at an offset
pub record PageEntry : Type 0 where
  pub offset : ℕ
  pub word : ℕ

-- this word stands at this offset
abbrev pub at : ℕ → ℕ → PageEntry
at offset word = record { offset = offset; word = word }

-- what loads find, at this counter: "16 the counter before it grows"
abbrev pub loads : ℕ → List PageEntry
loads counter =
    at 0 0xFEEDFACECAFEBEEF
    ∷ at 16 counter
    ∷ at 24 0x1111222233334444
    ∷ at 32 0x5555666677778888
    ∷ at 40 0x9999AAAABBBBCCCC
    ∷ []

-- what stores are taken: "A store succeeds only at 8 with 0x123456789ABCDEF0"
abbrev pub stores : List PageEntry
stores = at 8 0x123456789ABCDEF0 ∷ []

-- "Only 64-bit accesses succeed"
abbrev pub is64 : MemoryAccessWidth → Bool
is64 width = bits_of width == 64

-- the word at an offset, or a fault
unfoldable pub page_word : ℕ → ℕ → MemoryReadResult
page_word offset counter = first_of (λ e. nat_eq offset e.offset) (λ e. read.Value e.word) read.Fault (loads counter)

-- the load is of the counter word
unfoldable pub loads_counter : MemoryReadAccess → Bool
loads_counter access = is64 access.width && access.offset == 16

-- a load of the counter word makes it grow "by 1 modulo 2^64"
unfoldable pub counter_after : Bool → ℕ → ℕ
counter_after loaded counter = cond loaded ((counter + 1) % 2 ^ 64) counter

-- a load: the word, and the counter then; "All else faults and leaves the counter"
unfoldable pub read_filtered_mmio : MemoryReadAccess → ℕ → FilteredRead
read_filtered_mmio access counter =
    record {
      result = cond (is64 access.width) (page_word access.offset counter) read.Fault;
      counter = counter_after (loads_counter access) counter;
    }

-- a store: handled, or else a fault
unfoldable pub write_filtered_mmio : MemoryWriteAccess → MemoryWriteResult
write_filtered_mmio access =
    cond (is64 access.width && any_of (λ e. (access.offset == e.offset) && access.value == e.word) stores)
    write.Handled
    write.Fault
