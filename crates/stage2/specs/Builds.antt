-- Lists of builder calls, and what every policy that they make has. Assumes nothing.
use Rattle.std.specs.Prelude.{ℕ, ◌≤◌, ◌<◌, ◌≡◌, ◌&&◌, ◌||◌, true, false, length}
use mathlib.Core.List.{List, [], ◌∷◌, Memᴰ}
use Rattle.lists.specs.Lists.{Ascending}
use Rattle.stage2_range.specs.declared.PageRange.{PageRange}
use Rattle.stage2_range.specs.declared.Stage2Range.{Stage2Range}
use Rattle.stage2_range.specs.declared.MemoryAccessRegion.{MemoryAccessRegion}
use Rattle.stage2_range.specs.Ranges.{ValidRange, page_range, shares_byte, range_bytes}
use Rattle.stage2_range.specs.Handlers.{is_handler}
use Rattle.stage2_range.specs.Registry.{region_bytes}
use Rattle.stage2.specs.declared.Policy.{Policy}
use Rattle.stage2.specs.declared.Built.{Built}
use Rattle.stage2.specs.Policy.{allowed_held, regions_held, allow_range, handle_range, range_held, region_held}

-- "Builder calls are `allow_range` and `handle_range`"
pub data BuilderCall : Type 0 where
  allow : (base size attributes : ℕ) → BuilderCall
  handle : (base size read write : ℕ) → BuilderCall

-- what a builder call answers, and the policy then
abbrev pub build : Policy → BuilderCall → Built
build p (allow base size attributes) = allow_range p base size attributes
build p (handle base size read write) = handle_range p base size read write

-- the policy after a list of calls, refused ones included: "Each call gets the state that the last one handed back"
abbrev pub build_all : Policy → List BuilderCall → Policy
build_all p [] = p
build_all p (c ∷ cs) = build_all (build p c).policy cs

-- these bytes share none with an allowed range or a region that is held
pub record Apart (p : Policy) (bytes : PageRange) : Type 0 where
  pub from_allowed : (r : Stage2Range) → Memᴰ r (allowed_held p) → shares_byte (range_bytes r) bytes ≡ false
  pub from_regions : (r : MemoryAccessRegion) → Memᴰ r (regions_held p) → shares_byte (region_bytes r) bytes ≡ false

-- a range can be allowed: its arguments fit, there is room, no byte is shared
pub record CanAllow (p : Policy) (base size : ℕ) : Type 0 where
  pub fits : ValidRange base size
  pub room : p.allowed_count < 32
  pub apart : Apart p (page_range base size)

-- a range can be handled: its arguments fit, there is room, no byte is shared
pub record CanHandle (p : Policy) (base size read write : ℕ) : Type 0 where
  pub handlers : (is_handler read && is_handler write) ≡ true
  pub fits : ValidRange base size
  pub room : p.region_count < 16
  pub apart : Apart p (page_range base size)

-- a range can be released: its arguments fit, and a record with them is held
pub record CanRelease (p : Policy) (base size : ℕ) : Type 0 where
  pub fits : ValidRange base size
  pub is_held : (range_held p base size || region_held p base size) ≡ true

-- two policies hold the same, in place: their counts, their allowed ranges and their regions are equal
pub record SameHeld (p q : Policy) : Type 0 where
  pub allowed_counts : p.allowed_count ≡ q.allowed_count
  pub region_counts : p.region_count ≡ q.region_count
  pub allowed : allowed_held p ≡ allowed_held q
  pub regions : regions_held p ≡ regions_held q

-- any two records of a list share no byte
abbrev pub AllApart : {A : Type 0} → (A → PageRange) → List A → Type 0
AllApart bytes_of [] = Unit {0}
AllApart bytes_of (x ∷ xs) = (((y : _) → Memᴰ y xs → shares_byte (bytes_of x) (bytes_of y) ≡ false) × AllApart bytes_of xs)

-- the records of a list, by their sizes and their bytes: each is whole pages, not empty, and has the bytes of its base and size; no two
-- share a byte
pub record Disjoint {A : Type 0} (size_of : A → ℕ) (bytes_of : A → PageRange) (records : List A) : Type 0 where
  pub valid : (x : A) → Memᴰ x records → ValidRange (bytes_of x).base_ipa (size_of x)
  pub whole : (x : A) → Memᴰ x records → bytes_of x ≡ page_range (bytes_of x).base_ipa (size_of x)
  pub apart : AllApart bytes_of records

-- an array has its places, and the count is within them
pub record Places {A : Type 0} (limit count : ℕ) (array : List A) : Type 0 where
  pub all : length array ≡ limit
  pub within : count ≤ limit

-- what holds of every policy built from fresh: both arrays have their places, the records held are disjoint whole pages, in each list and
-- over both, and the regions ascend by base
pub record WellFormed (p : Policy) : Type 0 where
  pub allowed_places : Places 32 p.allowed_count p.allowed
  pub region_places : Places 16 p.region_count p.regions
  pub allowed_disjoint : Disjoint (λ r. r.size) range_bytes (allowed_held p)
  pub regions_disjoint : Disjoint (λ r. r.size) region_bytes (regions_held p)
  pub lists_apart : (a : Stage2Range) → Memᴰ a (allowed_held p) → (r : MemoryAccessRegion) → Memᴰ r (regions_held p)
      → shares_byte (range_bytes a) (region_bytes r) ≡ false
  pub ascending : Ascending (λ r. r.base_ipa) 0 (regions_held p)
