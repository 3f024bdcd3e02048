-- Ranges of guest addresses (document 01, "Range and region"; the numbers of its table of refusals). The page size is 4,096. Assumes nothing.
use Rattle.std.specs.Prelude.{ℕ, ◌+◌, ◌-◌, ◌%◌, ◌^◌, ◌≤◌, min, max, ◌≡◌, Bool, not, ◌&&◌, cond, List, [], ◌∷◌, ltb, leb, eqb, Err, None, Ok, Option, Result, Some, ⊤, unwrap_or}
use Rattle.lists.specs.Lists.{any_of}
use Rattle.lists.specs.Refusals.{Case, case, first_met, answer_number, missing_number}
use Rattle.stage2_range.specs.declared.Stage2ConfigError.{Stage2ConfigError}
use Rattle.stage2_range.specs.declared.Stage2ConfigError.TheVariants.{RangeBaseNotPageAligned, EmptyRange, RangeSizeNotPageMultiple, RangeEndOverflow, TooManyAllowedRanges, AllowedRangeOverlap, AllowedRangeOverlapsMemoryAccessHandler, TooManyMemoryAccessHandlerRegions, MemoryAccessHandlerRangeOverlap, UnknownMemoryHandler, InvalidDevicetree, UnsupportedCellCounts, RangeNotHeld}
use Rattle.stage2_range.specs.declared.PageRange.{PageRange}
use Rattle.stage2_range.specs.declared.Stage2Range.{Stage2Range}

-- what a table answers: the first refusal that is met, and accepted where none is
abbrev pub answer_of : List (Case Stage2ConfigError) → Result ⊤ Stage2ConfigError
answer_of cases = first_met Err (Ok tt) cases

-- a number is a whole number of pages
abbrev pub page_multiple : ℕ → Bool
page_multiple n = eqb (n % 4096) 0

-- the largest end that a range may have: refusal 4 is met where "base + size ≥ 2^64"
abbrev pub largest_end : ℕ
largest_end = 2 ^ 64 - 1

-- refusals 1 to 4: "base mod 4,096 is not 0", "size 0", "size mod 4,096 is not 0", "base + size ≥ 2^64"
abbrev pub range_cases : ℕ → ℕ → List (Case Stage2ConfigError)
range_cases base size =
    case RangeBaseNotPageAligned (not (page_multiple base))
    ∷ case EmptyRange (eqb size 0)
    ∷ case RangeSizeNotPageMultiple (not (page_multiple size))
    ∷ case RangeEndOverflow (ltb largest_end (base + size))
    ∷ []

-- what a base and a size are answered
unfoldable pub validate_range : ℕ → ℕ → Result ⊤ Stage2ConfigError
validate_range base size = answer_of (range_cases base size)

-- the arguments of a call fit: none of 1 to 4 is met
pub record ValidRange (base size : ℕ) : Type 0 where
  pub base_aligned : base % 4096 ≡ 0
  pub not_empty : size ≡ 0 → ⊥
  pub whole_pages : size % 4096 ≡ 0
  pub ends : base + size ≤ largest_end

-- the bytes of a base and a size: "end = base + size"; none where refusal 4 is met
abbrev pub page_range : ℕ → ℕ → PageRange
page_range base size = record { base_ipa = base; end_ipa = cond (ltb largest_end (base + size)) base (base + size) }

-- a byte is one of these: they are "those from its stored base up to but not including its stored end"
unfoldable pub has_byte : PageRange → ℕ → Bool
has_byte r ipa = leb r.base_ipa ipa && ltb ipa r.end_ipa

-- "shares a byte": some byte is one of both, as the later base lies below the earlier end
unfoldable pub shares_byte : PageRange → PageRange → Bool
shares_byte r s = ltb (max r.base_ipa s.base_ipa) (min r.end_ipa s.end_ipa)

-- the allowed range of a base and a size
abbrev pub range_of : ℕ → ℕ → ℕ → Stage2Range
range_of base size attributes =
    record { base_ipa = base; size = size; end_ipa = (page_range base size).end_ipa; attributes = attributes }

-- its bytes, "whatever its size says"
abbrev pub range_bytes : Stage2Range → PageRange
range_bytes r = record { base_ipa = r.base_ipa; end_ipa = r.end_ipa }

-- its numbers: base, size, end, attributes
abbrev pub range_words : Stage2Range → List ℕ
range_words r = r.base_ipa ∷ r.size ∷ r.end_ipa ∷ r.attributes ∷ []

-- a record has this "stored base and size": of records of any kind, of which each has its bytes and its size
abbrev pub is_record : {A : Type 0} → (A → PageRange) → (A → ℕ) → ℕ → ℕ → A → Bool
is_record bytes_of size_of base size x = eqb (bytes_of x).base_ipa base && eqb (size_of x) size

-- it is the one to release: "by its stored base and size"
abbrev pub is_range : ℕ → ℕ → Stage2Range → Bool
is_range base size r = is_record range_bytes (λ x. x.size) base size r

-- "shares a byte with" one of some records, of which each has its bytes
unfoldable pub overlaps : {A : Type 0} → (A → PageRange) → List A → PageRange → Bool
overlaps bytes_of records bytes = any_of (λ x. shares_byte (bytes_of x) bytes) records

-- refusal 6: "shares a byte with an allowed range" of those held
abbrev pub overlaps_allowed : List Stage2Range → PageRange → Bool
overlaps_allowed ranges bytes = overlaps range_bytes ranges bytes

-- the page boundary at or below an address
unfoldable pub align_down : ℕ → ℕ
align_down address = address - address % 4096

-- the page boundary at or above an address; 18: "rounding up an address above 2^64 - 4,096"
unfoldable pub align_up : ℕ → Option ℕ
align_up address = cond (ltb (2 ^ 64 - 4096) address) None (Some (align_down (address + 4095)))

-- the numbers of the refusals in document 01's table
abbrev pub error_number : Stage2ConfigError → ℕ
error_number RangeBaseNotPageAligned = 1
error_number EmptyRange = 2
error_number RangeSizeNotPageMultiple = 3
error_number RangeEndOverflow = 4
error_number TooManyAllowedRanges = 5
error_number AllowedRangeOverlap = 6
error_number AllowedRangeOverlapsMemoryAccessHandler = 7
error_number TooManyMemoryAccessHandlerRegions = 8
error_number MemoryAccessHandlerRangeOverlap = 9
error_number UnknownMemoryHandler = 20
error_number InvalidDevicetree = 21
error_number UnsupportedCellCounts = 22
error_number RangeNotHeld = 23

-- an answer, and where it accepts that of what comes after
abbrev pub after : Result ⊤ Stage2ConfigError → Result ⊤ Stage2ConfigError → Result ⊤ Stage2ConfigError
after (Ok _) rest = rest
after (Err e) rest = Err e

-- the number of an answer: 0 where it is accepted
abbrev pub result_number : Result ⊤ Stage2ConfigError → ℕ
result_number answer = answer_number error_number answer

-- the number of a rounding's answer
abbrev pub aligned_number : Option ℕ → ℕ
aligned_number answer = missing_number 18 answer

-- the result field of a rounding: zero in a refusal
abbrev pub aligned_value : Option ℕ → ℕ
aligned_value answer = unwrap_or answer 0
