-- The blob: header, reservation list, blocks, and what the answer is. Assumes nothing.
use Rattle.std.specs.Prelude.{ℕ, zero, suc, ◌+◌, ◌-◌, ◌/◌, ◌%◌, Bool, true, false, cond, Result, Ok, Err, List, [], length, take, drop, ◌==◌, nat_lt}
use Rattle.fdt_tokens.specs.Devicetree.{Pair, Said, invalid, unsupported, pairs}
use Rattle.fdt_tokens.specs.Bytes.{be32_at}
use Rattle.fdt_nodes.specs.declared.DevicetreeError.{DevicetreeError}
use Rattle.fdt_nodes.specs.declared.DevicetreeError.TheVariants.{Invalid, UnsupportedCellCounts}
use Rattle.fdt_nodes.specs.Scan.{started}
use Rattle.fdt.specs.Passes.{judged_block, left_in}
use Rattle.fdt.specs.declared.Walk.{Walk}
use Rattle.fdt.specs.declared.Blocks.{Blocks}
use Rattle.fdt.specs.declared.Cursor.{Cursor}

-- the second pass at its start
abbrev pub first_walk : Walk
first_walk = record { at = 0; scan = started; place = 0; left = 0 }

-- blocks by their places
abbrev pub blocks_at : ℕ → ℕ → ℕ → ℕ → Blocks
blocks_at a b c d = record { block = record { from = a; to = b }; strings = record { from = c; to = d } }

-- the place before the first pair of some blocks
abbrev pub cursor_at : Blocks → Cursor
cursor_at b = record { blocks = b; walk = first_walk }

-- an entry of sixteen zero bytes
unfoldable pub zero_entry : List ℕ → ℕ → Bool
zero_entry s at =
    cond (be32_at s at == 0)
    (cond (be32_at s (at + 4) == 0)
    (cond (be32_at s (at + 8) == 0) (be32_at s (at + 12) == 0) false) false) false

-- among the `n` entries from `at` on is one of zero bytes
unfoldable pub list_ends : List ℕ → ℕ → ℕ → Bool
list_ends s at zero = false
list_ends s at (suc n) = cond (zero_entry s at) true (list_ends s (at + 16) n)

-- magic, versions, alignment, the reservation list's end
unfoldable pub header_ok : List ℕ → ℕ → Bool
header_ok s total =
    cond (be32_at s 0 == 0xD00DFEED)
    (cond (nat_lt (be32_at s 20) 17) false
    (cond (nat_lt 17 (be32_at s 24)) false
    (cond (be32_at s 16 % 8 == 0)
    (cond (be32_at s 8 % 4 == 0) (list_ends s (be32_at s 16) ((total - be32_at s 16) / 16)) false) false))) false

-- the bytes from a place to another
abbrev pub part : List ℕ → ℕ → ℕ → List ℕ
part s from to = take (to - from) (drop from s)

-- the structure block and the strings block
abbrev pub block_of : List ℕ → Blocks → List ℕ
block_of s b = part s b.block.from b.block.to

abbrev pub strings_of : List ℕ → Blocks → List ℕ
strings_of s b = part s b.strings.from b.strings.to

-- the first pass decides whether there are pairs, and these blocks have them
unfoldable pub memory_by : Result (Unit {0}) DevicetreeError → Blocks → Result Cursor DevicetreeError
memory_by (Ok u) b = Ok (cursor_at b)
memory_by (Err e) b = Err e

-- the answer of the blocks at some places
unfoldable pub blocks_memory : List ℕ → Blocks → Result Cursor DevicetreeError
blocks_memory s b = memory_by (judged_block (block_of s b) (strings_of s b)) b

-- the header, then blocks inside totalsize, then what they say
unfoldable pub blob_memory : List ℕ → ℕ → Result Cursor DevicetreeError
blob_memory s total =
    cond (header_ok s total)
    (cond (nat_lt total (be32_at s 8 + be32_at s 36)) (Err Invalid)
    (cond (nat_lt total (be32_at s 12 + be32_at s 32)) (Err Invalid)
    (blocks_memory s (blocks_at (be32_at s 8) (be32_at s 8 + be32_at s 36) (be32_at s 12) (be32_at s 12 + be32_at s 32)))))
    (Err Invalid)

-- the lengths, then the blob
unfoldable pub memory_of : List ℕ → Result Cursor DevicetreeError
memory_of s =
    cond (nat_lt (length s) 40) (Err Invalid)
    (cond (nat_lt (be32_at s 4) 40) (Err Invalid)
    (cond (nat_lt 65536 (be32_at s 4)) (Err Invalid)
    (cond (nat_lt (length s) (be32_at s 4)) (Err Invalid)
    (blob_memory s (be32_at s 4)))))

-- a part that lies in `n` bytes, and ends at 64 KiB at most
unfoldable pub inside_of : ℕ → ℕ → ℕ → Bool
inside_of n from to = cond (nat_lt 65536 to) false (cond (nat_lt n to) false (cond (nat_lt to from) false true))

-- the pairs left at a cursor; a cursor that is not of this slice may have none
unfoldable pub pairs_left : List ℕ → Cursor → List Pair
pairs_left s c =
    cond (inside_of (length s) c.blocks.block.from c.blocks.block.to)
    (cond (inside_of (length s) c.blocks.strings.from c.blocks.strings.to)
    (left_in (block_of s c.blocks) (strings_of s c.blocks) c.walk)
    []) []

-- a slice's memory as an answer, with all the pairs that are left at its cursor
unfoldable pub memory_answer : List ℕ → Result Cursor DevicetreeError → Said
memory_answer s (Err Invalid) = invalid
memory_answer s (Err UnsupportedCellCounts) = unsupported
memory_answer s (Ok cursor) = pairs (pairs_left s cursor)

-- what the reader answers
unfoldable pub blob_answer : List ℕ → Said
blob_answer s = memory_answer s (memory_of s)
