-- The stage-2 policy and the calls that build it (document 01, "Range and region" and its table of refusals). Policies handed in may hold
-- anything. Assumes nothing.
use Rattle.std.specs.Prelude.{ℕ, ◌+◌, Bool, not, ◌&&◌, ◌||◌, cond, List, [], ◌∷◌, ◌++◌, leb, length, set, replicate, Err, Ok, Result, ⊤}
use Rattle.lists.specs.Lists.{held, any_of, without_first, in_first_places}
use Rattle.lists.specs.Refusals.{Case, case}
use Rattle.stage2_range.specs.declared.Stage2ConfigError.{Stage2ConfigError}
use Rattle.stage2_range.specs.declared.Stage2ConfigError.TheVariants.{TooManyAllowedRanges, AllowedRangeOverlap, AllowedRangeOverlapsMemoryAccessHandler, UnknownMemoryHandler, RangeNotHeld}
use Rattle.stage2_range.specs.declared.PageRange.{PageRange}
use Rattle.stage2_range.specs.declared.Stage2Range.{Stage2Range}
use Rattle.stage2_range.specs.declared.MemoryAccessRegion.{MemoryAccessRegion}
use Rattle.stage2_range.specs.Ranges.{answer_of, range_cases, page_range, range_of, is_range, overlaps_allowed}
use Rattle.stage2_range.specs.Handlers.{is_handler}
use Rattle.stage2_range.specs.Registry.{region_of, is_region, overlaps_regions, insert_region, register_cases}
use Rattle.stage2.specs.declared.Policy.{Policy}
use Rattle.stage2.specs.declared.Built.{Built}

-- "Fresh means no range, no region"
unfoldable pub fresh_policy : Policy
fresh_policy = record {
  allowed = replicate 32 (range_of 0 0 0);
  allowed_count = 0;
  regions = replicate 16 (region_of 0 0 0 0);
  region_count = 0;
}

-- "At most 32 allowed ranges, in order of arrival": those held
abbrev pub allowed_held : Policy → List Stage2Range
allowed_held p = held 32 p.allowed_count p.allowed

-- "and 16 regions, ascending by base": those held
abbrev pub regions_held : Policy → List MemoryAccessRegion
regions_held p = held 16 p.region_count p.regions

-- "A refusal returns its number .., and all state is as before"
abbrev pub built_by : Result ⊤ Stage2ConfigError → Policy → Policy → Built
built_by (Ok _) before next = record { answer = Ok tt; policy = next }
built_by (Err error) before next = record { answer = Err error; policy = before }

-- refusals 5 to 7: "32 allowed", "shares a byte with an allowed range", "allowing, shares a byte with a region"
abbrev pub allow_cases : Policy → PageRange → List (Case Stage2ConfigError)
allow_cases p bytes =
    case TooManyAllowedRanges (leb 32 p.allowed_count)
    ∷ case AllowedRangeOverlap (overlaps_allowed (allowed_held p) bytes)
    ∷ case AllowedRangeOverlapsMemoryAccessHandler (overlaps_regions (regions_held p) bytes)
    ∷ []

-- what `allow_range` answers: "allow 1 to 7 in order"
unfoldable pub allow_answer : Policy → ℕ → ℕ → Result ⊤ Stage2ConfigError
allow_answer p base size = answer_of (range_cases base size ++ allow_cases p (page_range base size))

-- an allowed range stands after those that came before it
unfoldable pub add_allowed : Policy → Stage2Range → Policy
add_allowed p r = record {
  allowed = set p.allowed p.allowed_count r;
  allowed_count = p.allowed_count + 1;
  regions = p.regions;
  region_count = p.region_count;
}

-- `allow_range`
unfoldable pub allow_range : Policy → ℕ → ℕ → ℕ → Built
allow_range p base size attributes = built_by (allow_answer p base size) p (add_allowed p (range_of base size attributes))

-- refusal 20: "a half is neither 0 nor 1"
abbrev pub half_cases : ℕ → ℕ → List (Case Stage2ConfigError)
half_cases read write = case UnknownMemoryHandler (not (is_handler read && is_handler write)) ∷ []

-- refusals 6, 8 and 9: "shares a byte with an allowed range", "16 regions", "handling, shares a byte with a region"
abbrev pub handle_cases : Policy → PageRange → List (Case Stage2ConfigError)
handle_cases p bytes =
    case AllowedRangeOverlap (overlaps_allowed (allowed_held p) bytes) ∷ register_cases p.regions p.region_count bytes

-- what `handle_range` answers: "handle 20, 1 to 4, 6, 8, 9"
unfoldable pub handle_answer : Policy → ℕ → ℕ → ℕ → ℕ → Result ⊤ Stage2ConfigError
handle_answer p base size read write =
    answer_of (half_cases read write ++ (range_cases base size ++ handle_cases p (page_range base size)))

-- a region stands at its place by base
unfoldable pub add_region : Policy → MemoryAccessRegion → Policy
add_region p r = record {
  allowed = p.allowed;
  allowed_count = p.allowed_count;
  regions = insert_region p.regions p.region_count r;
  region_count = p.region_count + 1;
}

-- `handle_range`
unfoldable pub handle_range : Policy → ℕ → ℕ → ℕ → ℕ → Built
handle_range p base size read write = built_by (handle_answer p base size read write) p (add_region p (region_of base size read write))

-- an allowed range with this base and size is held; a region with them is held
abbrev pub range_held : Policy → ℕ → ℕ → Bool
range_held p base size = any_of (is_range base size) (allowed_held p)

abbrev pub region_held : Policy → ℕ → ℕ → Bool
region_held p base size = any_of (is_region base size) (regions_held p)

-- refusal 23: "when releasing a range that is not held"
abbrev pub not_held_cases : Policy → ℕ → ℕ → List (Case Stage2ConfigError)
not_held_cases p base size = case RangeNotHeld (not (range_held p base size || region_held p base size)) ∷ []

-- what `release_range` meets: "23 .., after 1 to 4"
abbrev pub release_cases : Policy → ℕ → ℕ → List (Case Stage2ConfigError)
release_cases p base size = range_cases base size ++ not_held_cases p base size

-- what it answers
unfoldable pub release_answer : Policy → ℕ → ℕ → Result ⊤ Stage2ConfigError
release_answer p base size = answer_of (release_cases p base size)

-- the policy without its first allowed range with this base and size: those left stand in the first places, in their order, and their
-- count is how many they are; the places past them keep what they held, so the last of those that moved stands twice
unfoldable pub without_allowed : Policy → ℕ → ℕ → Policy
without_allowed p base size =
    let left = without_first (is_range base size) (allowed_held p) in
    record {
      allowed = in_first_places left p.allowed;
      allowed_count = length left;
      regions = p.regions;
      region_count = p.region_count;
    }

-- the same of its first region with them
unfoldable pub without_region : Policy → ℕ → ℕ → Policy
without_region p base size =
    let left = without_first (is_region base size) (regions_held p) in
    record {
      allowed = p.allowed;
      allowed_count = p.allowed_count;
      regions = in_first_places left p.regions;
      region_count = length left;
    }

-- "the first that matches, allowed ranges before regions"
abbrev pub without_range : Policy → ℕ → ℕ → Policy
without_range p base size = cond (range_held p base size) (without_allowed p base size) (without_region p base size)

-- `release_range`
unfoldable pub release_range : Policy → ℕ → ℕ → Built
release_range p base size = built_by (release_answer p base size) p (without_range p base size)
