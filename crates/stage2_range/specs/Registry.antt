-- The handled regions, held in an array and a count (document 01, "Range and region"). Records handed in may hold anything. Assumes nothing.
use Rattle.std.specs.Prelude.{ℕ, ◌+◌, ◌-◌, Bool, List, [], ◌∷◌, ◌++◌, leb, take, drop, Err, None, Ok, Option, Result, Some, ⊤}
use Rattle.lists.specs.Lists.{held, first_of, insert_before}
use Rattle.lists.specs.Refusals.{Case, case}
use Rattle.memory_access.specs.declared.Ipa.{Ipa}
use Rattle.stage2_range.specs.declared.Stage2ConfigError.{Stage2ConfigError}
use Rattle.stage2_range.specs.declared.Stage2ConfigError.TheVariants.{TooManyMemoryAccessHandlerRegions, MemoryAccessHandlerRangeOverlap}
use Rattle.stage2_range.specs.declared.PageRange.{PageRange}
use Rattle.stage2_range.specs.declared.MemoryAccessRegion.{MemoryAccessRegion}
use Rattle.stage2_range.specs.declared.Registered.{Registered}
use Rattle.stage2_range.specs.Ranges.{answer_of, page_range, has_byte, is_record, overlaps}
use Rattle.stage2_range.specs.Handlers.{handler_of, handler_number}
use Rattle.stage2_range.specs.declared.MemoryAccessHandlerMatch.{MemoryAccessHandlerMatch}

-- the region of a base and a size, and the numbers of its handlers
abbrev pub region_of : ℕ → ℕ → ℕ → ℕ → MemoryAccessRegion
region_of base size read write = record {
  base_ipa = base;
  size = size;
  handler = record { read = handler_of read; write = handler_of write };
  end_ipa = (page_range base size).end_ipa;
}

-- its bytes, "whatever its size says"
abbrev pub region_bytes : MemoryAccessRegion → PageRange
region_bytes r = record { base_ipa = r.base_ipa; end_ipa = r.end_ipa }

-- its numbers: base, size, end, read, write
abbrev pub region_words : MemoryAccessRegion → List ℕ
region_words r =
    r.base_ipa ∷ r.size ∷ r.end_ipa ∷ handler_number r.handler.read ∷ handler_number r.handler.write ∷ []

-- it is the one to release: "by its stored base and size"
abbrev pub is_region : ℕ → ℕ → MemoryAccessRegion → Bool
is_region base size r = is_record region_bytes (λ x. x.size) base size r

-- "base ≤ IPA < end": a region has an address
abbrev pub has_address : ℕ → MemoryAccessRegion → Bool
has_address ipa r = has_byte (region_bytes r) ipa

-- refusals 7 and 9: "shares a byte with a region" of those held
abbrev pub overlaps_regions : List MemoryAccessRegion → PageRange → Bool
overlaps_regions regions bytes = overlaps region_bytes regions bytes

-- "`find` answers the first region with base ≤ IPA < end and the offset IPA - base, else none"
unfoldable pub find_region : List MemoryAccessRegion → Ipa → Option MemoryAccessHandlerMatch
find_region regions ipa =
    first_of (has_address ipa.0) (λ r. Some (record { region = r; offset = ipa.0 - r.base_ipa })) None regions

-- "a new region goes before the first whose base is not below its own"; the places past the count as they were
unfoldable pub insert_region : List MemoryAccessRegion → ℕ → MemoryAccessRegion → List MemoryAccessRegion
insert_region regions n region =
    insert_before (λ r. leb region.base_ipa r.base_ipa) region (take n regions) ++ drop (n + 1) regions

-- refusals 8 and 9: "16 regions", "shares a byte with a region"
abbrev pub register_cases : List MemoryAccessRegion → ℕ → PageRange → List (Case Stage2ConfigError)
register_cases regions n bytes =
    case TooManyMemoryAccessHandlerRegions (leb 16 n)
    ∷ case MemoryAccessHandlerRangeOverlap (overlaps_regions (held 16 n regions) bytes)
    ∷ []

-- an accepted region is inserted; a refusal leaves the registry as it was
abbrev pub registered_by : Result ⊤ Stage2ConfigError → List MemoryAccessRegion → ℕ → MemoryAccessRegion → Registered
registered_by (Ok _) regions n region = record { answer = Ok tt; regions = insert_region regions n region; region_count = n + 1 }
registered_by (Err e) regions n region = record { answer = Err e; regions = regions; region_count = n }

-- the registry after a call
unfoldable pub register_region : List MemoryAccessRegion → ℕ → MemoryAccessRegion → Registered
register_region regions n region = registered_by (answer_of (register_cases regions n (region_bytes region))) regions n region

-- the result fields of `find`: 1 where a region is found, its place among those held, and the offset in it; zeros where none is
abbrev pub found_values : ℕ → Option MemoryAccessHandlerMatch → List ℕ
found_values place None = 0 ∷ 0 ∷ 0 ∷ []
found_values place (Some m) = 1 ∷ place ∷ m.offset ∷ []
