-- The answers of the builder's calls where the arguments fit: the first case that is met, by the counts and the overlaps. Assumes nothing.
use Prim.Native.Nat.{ℕ, ◌+◌, ◌*◌, ◌<◌, ◌≤◌, min}
use mathlib.Core.Path.{◌≡◌}
use mathlib.Core.Bool.{Bool, true, false}
use mathlib.Core.List.{List}
use native.Mathlib.Omega.{arith}
use borrow.Author.Tests.{le-leb, lt-leb}
use Rattle.stage2_range.specs.declared.PageRange.{PageRange}
use Rattle.stage2_range.specs.declared.Stage2ConfigError.TheVariants.{TooManyAllowedRanges, AllowedRangeOverlap, AllowedRangeOverlapsMemoryAccessHandler, TooManyMemoryAccessHandlerRegions, MemoryAccessHandlerRangeOverlap}
use Rattle.stage2_range.specs.Ranges.{answer_of, overlaps}
use Rattle.stage2.specs.Policy.{allow_cases, handle_cases}
use Rattle.lent_words.specs.Words.{word_at, each}
use Rattle.lent_policy.specs.Layout.{allowed_count_at, region_start, region_count_at, bytes_at, policy_at}
use Rattle.lent_policy.proofs.States.{allowed_count, region_count}
use Rattle.lent_policy.proofs.Search.{ranges_overlap, regions_overlap}
use Rattle.std.specs.Prelude.{Err, Ok}

module _ (b : List ℕ) (bytes : PageRange) where
  -- what the loop over the records held answers: for the ranges, and for the regions
  abbrev ranges : Bool
  ranges = overlaps (bytes_at b) (each (λ k. 0 + 4 * k) 0 (min (word_at b allowed_count_at) 32)) bytes

  abbrev regions : Bool
  regions = overlaps (bytes_at b) (each region_start 0 (min (word_at b region_count_at) 16)) bytes

  -- 5 to 7
  pub allow_full : 32 ≤ word_at b allowed_count_at → Err TooManyAllowedRanges ≡ answer_of (allow_cases (policy_at b) bytes)
  allow_full h = rw (le-leb 32 (policy_at b).allowed_count (omega (arith, allowed_count b)))

  pub allow_overlaps : word_at b allowed_count_at < 32 → ranges ≡ true
      → Err AllowedRangeOverlap ≡ answer_of (allow_cases (policy_at b) bytes)
  allow_overlaps h o = rw (lt-leb 32 (policy_at b).allowed_count (omega (arith, allowed_count b)), ← ranges_overlap b bytes, o)

  pub allow_handled : word_at b allowed_count_at < 32 → ranges ≡ false
      → regions ≡ true
      → Err AllowedRangeOverlapsMemoryAccessHandler ≡ answer_of (allow_cases (policy_at b) bytes)
  allow_handled h o r = rw (lt-leb 32 (policy_at b).allowed_count (omega (arith, allowed_count b)), ← ranges_overlap b bytes, o, ← regions_overlap b bytes, r)

  pub allow_fits : word_at b allowed_count_at < 32 → ranges ≡ false
      → regions ≡ false
      → Ok tt ≡ answer_of (allow_cases (policy_at b) bytes)
  allow_fits h o r = rw (lt-leb 32 (policy_at b).allowed_count (omega (arith, allowed_count b)), ← ranges_overlap b bytes, o, ← regions_overlap b bytes, r)

  -- 6, 8 and 9
  pub handle_overlaps : ranges ≡ true
      → Err AllowedRangeOverlap ≡ answer_of (handle_cases (policy_at b) bytes)
  handle_overlaps o = rw (← ranges_overlap b bytes, o)

  pub handle_full : ranges ≡ false → 16 ≤ word_at b region_count_at
      → Err TooManyMemoryAccessHandlerRegions ≡ answer_of (handle_cases (policy_at b) bytes)
  handle_full o h = rw (← ranges_overlap b bytes, o, le-leb 16 (policy_at b).region_count (omega (arith, region_count b)))

  pub handle_handled : ranges ≡ false → word_at b region_count_at < 16
      → regions ≡ true
      → Err MemoryAccessHandlerRangeOverlap ≡ answer_of (handle_cases (policy_at b) bytes)
  handle_handled o h r = rw (← ranges_overlap b bytes, o, lt-leb 16 (policy_at b).region_count (omega (arith, region_count b)), ← regions_overlap b bytes, r)

  pub handle_fits : ranges ≡ false → word_at b region_count_at < 16
      → regions ≡ false
      → Ok tt ≡ answer_of (handle_cases (policy_at b) bytes)
  handle_fits o h r = rw (← ranges_overlap b bytes, o, lt-leb 16 (policy_at b).region_count (omega (arith, region_count b)), ← regions_overlap b bytes, r)
