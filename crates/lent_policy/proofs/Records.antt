-- Laws of ranges and regions in lent bytes: what was stored is read back, and what stands beside it is as it was. Assumes nothing.
use Prim.Native.Nat.{ℕ, zero, suc, ◌+◌, ◌<◌, ◌≤◌}
use mathlib.Core.Path.{◌≡◌, refl, ap, ◌∙◌}
use mathlib.Core.Bool.{Bool, true, false, cond}
use mathlib.Core.List.{List, [], ◌∷◌}
use native.Mathlib.Omega.{arith}
use native.Mathlib.Nat.{add-zero, zero-add}
use borrow.Author.Tests.{le-ltb}
use lib.Dec.{ltb}
use lib.ListN.{length, get_or}
use Rattle.lists.proofs.Laws.{cond_all}
use Rattle.lent_words.specs.Words.{word_at, each, FitsWord, Bytes, Lent}
use Rattle.lent_words.proofs.Words.{get_d_each}
use Rattle.lent_words.proofs.RoundTrip.{Every, words_beside, word_fits}
use Rattle.lent_words.proofs.Records.{InWords, record_written, record_kept}
use Rattle.stage2_range.specs.declared.Stage2Range.{Stage2Range}
use Rattle.stage2_range.specs.declared.MemoryAccessRegion.{MemoryAccessRegion}
use Rattle.stage2_range.specs.declared.MemoryHandler.{MemoryHandler}
use Rattle.stage2_range.specs.declared.MemoryHandler.TheVariants.{Fault}
use Rattle.stage2_range.specs.Ranges.{range_of, range_words}
use Rattle.stage2_range.specs.Handlers.{handler_of, handler_number, same_handler}
use Rattle.stage2_range.specs.Registry.{region_of}
use Rattle.stage2_range.proofs.Ranges.{end_fits}
use Rattle.stage2_range.proofs.Handlers.{handler_code, same_handler_lem, above_fault}
use Rattle.lent_policy.specs.Layout.{policy_size, range_start, allowed_count_at, region_start, region_count_at, range_at, with_range, region_at, kept_handler, region_stored, with_region, read_word, write_word}

-- one of the thirty-two ranges
pub range_of_lem : (policy : List ℕ) (k : ℕ) (d : Stage2Range) → k < 32 → get_or (each (range_at policy) 0 32) k d ≡ range_at policy k
range_of_lem policy k d h = get_d_each (range_at policy) 0 32 k d h ∙ ap (range_at policy) (zero-add k)

-- one of the sixteen regions
pub region_of_lem : (policy : List ℕ) (k : ℕ) (d : MemoryAccessRegion) → k < 16 → get_or (each (region_at policy) 0 16) k d ≡ region_at policy k
region_of_lem policy k d h = get_d_each (region_at policy) 0 16 k d h ∙ ap (region_at policy) (zero-add k)

-- a handler that was written is read back
pub handler_back : (old : ℕ) (h : MemoryHandler) → handler_of (kept_handler old h) ≡ h
handler_back old h = go (same_handler (handler_of old) h) refl
  where
    go : (same : Bool) → same_handler (handler_of old) h ≡ same → handler_of (cond same old (handler_number h)) ≡ h
    go true e = same_handler_lem (handler_of old) h e
    go false e = (handler_code h).1

-- a number below the fault's is the word for its handler, whatever stands there: no other word means it
pub kept_low : (word n : ℕ) → n < 2 → kept_handler word (handler_of n) ≡ n
kept_low zero zero h = refl
kept_low (suc zero) zero h = refl
kept_low (suc (suc zero)) zero h = refl
kept_low (suc (suc (suc word))) zero h = refl
kept_low zero (suc zero) h = refl
kept_low (suc zero) (suc zero) h = refl
kept_low (suc (suc zero)) (suc zero) h = refl
kept_low (suc (suc (suc word))) (suc zero) h = refl
kept_low word (suc (suc n)) h = absurd (omega arith)

-- from the fault's number on every word means the fault, and stays
pub kept_fault : (word n : ℕ) → 2 ≤ n → kept_handler word (handler_of n) ≡ cond (ltb word 2) 2 word
kept_fault word n h = rw (above_fault n h) (go word)
  where
    go : (word : ℕ) → kept_handler word Fault ≡ cond (ltb word 2) 2 word
    go zero = refl
    go (suc zero) = refl
    go (suc (suc zero)) = refl
    go (suc (suc (suc word))) = rw (le-ltb (suc (suc (suc word))) 2 (omega arith))

-- the range that words make
abbrev pub range_from : List ℕ → Stage2Range
range_from ws = record { base_ipa = get_or ws 0 0; size = get_or ws 1 0; end_ipa = get_or ws 2 0; attributes = get_or ws 3 0 }

-- the region that words make
abbrev pub region_from : List ℕ → MemoryAccessRegion
region_from ws = record {
  base_ipa = get_or ws 0 0;
  size = get_or ws 1 0;
  handler = record { read = handler_of (get_or ws 3 0); write = handler_of (get_or ws 4 0) };
  end_ipa = get_or ws 2 0;
}

-- a range stands in four words
pub range_in : (k : ℕ) → InWords (λ c. range_at c k) range_from (range_start k) 4
unfolding range_at
range_in k = record { reads = λ c. rw (add-zero (range_start k)) }

-- a region stands in five words
pub region_in : (k : ℕ) → InWords (λ c. region_at c k) region_from (region_start k) 5
unfolding region_at
region_in k = record { reads = λ c. rw (add-zero (region_start k)) }

-- the numbers of a range fit words
abbrev pub RangeFits : Stage2Range → Type 0
RangeFits r = Every FitsWord (range_words r)

-- the numbers of a region fit words
abbrev pub RegionFits : MemoryAccessRegion → Type 0
RegionFits r = Every FitsWord (r.base_ipa ∷ r.size ∷ r.end_ipa ∷ [])

-- those of the range and of the region that a call asks for do
pub asked_range_fits : (base size attributes : ℕ) → FitsWord base → FitsWord size → FitsWord attributes
    → RangeFits (range_of base size attributes)
asked_range_fits base size attributes f g h = (f, (g, (end_fits base size f, (h, tt))))

pub asked_region_fits : (base size read write : ℕ) → FitsWord base → FitsWord size → RegionFits (region_of base size read write)
asked_region_fits base size read write f g = (f, (g, (end_fits base size f, tt)))

-- those of what bytes hold do
pub range_fits : (b : List ℕ) → Bytes b → (k : ℕ) → RangeFits (range_at b k)
unfolding range_at
range_fits b h k =
    let at = range_start k in
    (word_fits b at h, (word_fits b (at + 1) h, (word_fits b (at + 2) h, (word_fits b (at + 3) h, tt))))

pub region_fits_lem : (b : List ℕ) → Bytes b → (k : ℕ) → RegionFits (region_at b k)
unfolding region_at
region_fits_lem b h k =
    let at = region_start k in
    (word_fits b at h, (word_fits b (at + 1) h, (word_fits b (at + 2) h, tt)))

-- A record that is stored at place `k`.
module _ (b : List ℕ) (k : ℕ) where
  -- the range is read back
  pub range_back : (r : Stage2Range) → length b ≡ policy_size → k < 32 → RangeFits r → range_at (with_range b k r) k ≡ r
  unfolding with_range
  range_back r long h fits = record_written (range_in k) b (range_words r) refl (omega arith) fits

  -- the region is read back
  pub region_back : (r : MemoryAccessRegion) → Lent policy_size b → k < 16 → RegionFits r → region_at (with_region b k r) k ≡ r
  unfolding with_region
  region_back r lent h fits =
      record_written (region_in k) b (region_stored b k r) refl (omega arith)
      (omega (arith, code r.handler.read (region_start k + read_word), code r.handler.write (region_start k + write_word)))
      ∙ rw (handler_back (word_at b (region_start k + read_word)) r.handler.read, handler_back (word_at b (region_start k + write_word)) r.handler.write)
    where
      code : (h : MemoryHandler) (i : ℕ) → FitsWord (kept_handler (word_at b i) h)
      code h i =
          cond_all FitsWord (same_handler (handler_of (word_at b i)) h) (word_at b i) (handler_number h) (word_fits b i lent.bytes) (omega (arith, handler_code h))

  -- the other ranges are as they were
  pub range_beside : (r : Stage2Range) (k' : ℕ) → (k ≡ k' → ⊥) → range_at (with_range b k r) k' ≡ range_at b k'
  unfolding with_range
  range_beside r k' h = record_kept (range_in k') b (range_start k) (range_words r) (omega arith)

  -- the other regions are as they were
  pub region_beside : (r : MemoryAccessRegion) (k' : ℕ) → (k ≡ k' → ⊥) → region_at (with_region b k r) k' ≡ region_at b k'
  unfolding with_region
  region_beside r k' h = record_kept (region_in k') b (region_start k) (region_stored b k r) (omega arith)

  -- a range leaves the regions as they were
  pub range_region : (r : Stage2Range) (k' : ℕ) → k < 32 → region_at (with_range b k r) k' ≡ region_at b k'
  unfolding with_range
  range_region r k' h = record_kept (region_in k') b (range_start k) (range_words r) (omega arith)

  -- a range leaves both counts as they were
  pub range_counts : (r : Stage2Range) → k < 32 → (word_at (with_range b k r) allowed_count_at ≡ word_at b allowed_count_at) × (word_at (with_range b k r) region_count_at ≡ word_at b region_count_at)
  unfolding with_range
  range_counts r h = (words_beside b (range_start k) (range_words r) allowed_count_at (omega arith), words_beside b (range_start k) (range_words r) region_count_at (omega arith))

  -- a region leaves the ranges as they were
  pub region_range : (r : MemoryAccessRegion) (k' : ℕ) → k' < 32 → range_at (with_region b k r) k' ≡ range_at b k'
  unfolding with_region
  region_range r k' h = record_kept (range_in k') b (region_start k) (region_stored b k r) (omega arith)

  -- a region leaves both counts as they were
  pub region_counts : (r : MemoryAccessRegion) → k < 16 → (word_at (with_region b k r) allowed_count_at ≡ word_at b allowed_count_at) × (word_at (with_region b k r) region_count_at ≡ word_at b region_count_at)
  unfolding with_region
  region_counts r h =
      (words_beside b (region_start k) (region_stored b k r) allowed_count_at (omega arith), words_beside b (region_start k) (region_stored b k r) region_count_at (omega arith))
