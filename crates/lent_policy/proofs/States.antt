-- Laws of a whole policy in lent bytes: zero bytes are the fresh one, and what was stored is read back. Assumes nothing.
use Prim.Native.Nat.{ℕ, ◌+◌, ◌≤◌}
use mathlib.Core.Path.{◌≡◌, refl, ◌∙◌}
use mathlib.Core.List.{List, [], ◌∷◌}
use native.Mathlib.Omega.{arith}
use lib.ListN.{length, replicate}
use Rattle.lent_words.specs.Words.{word_at, store_each, with_words, FitsWord, Lent}
use Rattle.lent_words.proofs.RoundTrip.{Every, store_stays, store_keeps, counted, counted_back, length_words, words_beside, lent_words}
use Rattle.lent_words.proofs.Records.{record_kept, each_constant, zero_word, zero_record, array_kept}
use Rattle.stage2_range.specs.declared.Stage2Range.{Stage2Range}
use Rattle.stage2_range.specs.declared.MemoryAccessRegion.{MemoryAccessRegion}
use Rattle.stage2_range.specs.Ranges.{range_words}
use Rattle.stage2.specs.declared.Policy.{Policy}
use Rattle.stage2.specs.Policy.{fresh_policy}
use Rattle.lent_policy.specs.Layout.{policy_size, range_start, allowed_count_at, region_start, region_count_at, region_stored, range_at, with_range, region_at, with_region, policy_at, with_allowed, with_regions}
use Rattle.lent_policy.proofs.Records.{RangeFits, RegionFits, range_from, region_from, range_in, region_in, range_back, region_back, range_beside, region_beside}

-- the counts of a policy, as the bytes say
pub allowed_count : (b : List ℕ) → (policy_at b).allowed_count ≡ word_at b allowed_count_at
unfolding policy_at
allowed_count b = refl

pub region_count : (b : List ℕ) → (policy_at b).region_count ≡ word_at b region_count_at
unfolding policy_at
region_count b = refl

-- zero bytes are the fresh policy
pub fresh_policy_lem : policy_at (replicate policy_size 0) ≡ fresh_policy
unfolding policy_at fresh_policy
fresh_policy_lem =
    let b : List ℕ = replicate policy_size 0 in
    rw (
      each_constant (range_at b) (range_from (replicate 4 0)) (λ k. zero_record (range_in k) policy_size) 0 32,
      each_constant (region_at b) (region_from (replicate 5 0)) (λ k. zero_record (region_in k) policy_size) 0 16,
      zero_word policy_size allowed_count_at,
      zero_word policy_size region_count_at,
    )

-- the allowed ranges and their count are as they were where words past them are written
allowed_kept : (b : List ℕ) (to : ℕ) (ws : List ℕ) → region_start 0 ≤ to → counted range_at 32 allowed_count_at (with_words b to ws) ≡ counted range_at 32 allowed_count_at b
allowed_kept b to ws h = λ i. (array_kept range_in b to ws 32 (omega arith) i, words_beside b to ws allowed_count_at (omega arith) i)

-- the regions and their count are as they were where words before them are written
regions_kept : (b : List ℕ) (to : ℕ) (ws : List ℕ) → to + length ws ≤ region_start 0 → counted region_at 16 region_count_at (with_words b to ws) ≡ counted region_at 16 region_count_at b
regions_kept b to ws h = λ i. (array_kept region_in b to ws 16 (omega arith) i, words_beside b to ws region_count_at (omega arith) i)

-- a policy by its two arrays
abbrev policy_of : List Stage2Range × ℕ → List MemoryAccessRegion × ℕ → Policy
policy_of a r = record { allowed = a.0; allowed_count = a.1; regions = r.0; region_count = r.1 }

-- allowed ranges that were stored are read back, and the regions are as they were
pub allowed_back : (b : List ℕ) (rs : List Stage2Range) (n : ℕ) → length b ≡ policy_size → length rs ≡ 32 → Every RangeFits rs → FitsWord n
    → policy_at (with_allowed b rs n) ≡ record { allowed = rs; allowed_count = n; regions = (policy_at b).regions; region_count = (policy_at b).region_count }
unfolding policy_at with_allowed with_range
allowed_back b rs n long all fits count = λ i. policy_of (own i) (rest i)
  where
    own : counted range_at 32 allowed_count_at (with_allowed b rs n) ≡ (rs, n)
    own =
        counted_back range_at with_range (λ c. length c ≡ policy_size) RangeFits 32 (λ c k r h. length_words c (range_start k) (range_words r) ∙ h) range_back range_beside
        allowed_count_at n (λ c h. omega arith) (λ c k h. record_kept (range_in k) c allowed_count_at (n ∷ []) (omega arith)) count rs b long all fits

    rest : counted region_at 16 region_count_at (with_allowed b rs n) ≡ counted region_at 16 region_count_at b
    rest =
        regions_kept (store_each with_range b 0 rs) allowed_count_at (n ∷ []) (omega arith)
        ∙ store_keeps with_range (counted region_at 16 region_count_at) rs b 0 (λ c k r l u. regions_kept c (range_start k) (range_words r) (omega arith))

-- regions that were stored are read back, and the allowed ranges are as they were
pub regions_back : (b : List ℕ) (rs : List MemoryAccessRegion) (n : ℕ) → Lent policy_size b → length rs ≡ 16 → Every RegionFits rs → FitsWord n
    → policy_at (with_regions b rs n) ≡ record { allowed = (policy_at b).allowed; allowed_count = (policy_at b).allowed_count; regions = rs; region_count = n }
unfolding policy_at with_regions with_region
regions_back b rs n lent all fits count = λ i. policy_of (rest i) (own i)
  where
    own : counted region_at 16 region_count_at (with_regions b rs n) ≡ (rs, n)
    own =
        counted_back region_at with_region (Lent policy_size) RegionFits 16 (λ c k r h. lent_words c (region_start k) (region_stored c k r) h) region_back region_beside
        region_count_at n (λ c h. omega arith) (λ c k h. record_kept (region_in k) c region_count_at (n ∷ []) (omega arith)) count rs b lent all fits

    rest : counted range_at 32 allowed_count_at (with_regions b rs n) ≡ counted range_at 32 allowed_count_at b
    rest =
        allowed_kept (store_each with_region b 0 rs) region_count_at (n ∷ []) (omega arith)
        ∙ store_keeps with_region (counted range_at 32 allowed_count_at) rs b 0 (λ c k r l u. allowed_kept c (region_start k) (region_stored c k r) (omega arith))

-- the bytes with other ranges or regions are lent bytes
pub allowed_lent : (b : List ℕ) (rs : List Stage2Range) (n : ℕ) → Lent policy_size b → Lent policy_size (with_allowed b rs n)
unfolding with_allowed with_range
allowed_lent b rs n lent =
    lent_words (store_each with_range b 0 rs) allowed_count_at (n ∷ [])
    (store_stays with_range (Lent policy_size) (λ c k r h. lent_words c (range_start k) (range_words r) h) rs b 0 lent)

pub regions_lent : (b : List ℕ) (rs : List MemoryAccessRegion) (n : ℕ) → Lent policy_size b → Lent policy_size (with_regions b rs n)
unfolding with_regions with_region
regions_lent b rs n lent =
    lent_words (store_each with_region b 0 rs) region_count_at (n ∷ [])
    (store_stays with_region (Lent policy_size) (λ c k r h. lent_words c (region_start k) (region_stored c k r) h) rs b 0 lent)
