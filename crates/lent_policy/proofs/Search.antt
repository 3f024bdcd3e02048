-- Laws of searches in lent bytes. Assumes nothing.
use Prim.Native.Nat.{ℕ, zero, suc, ◌+◌, ◌*◌, ◌-◌, ◌≤◌, ◌<◌, min}
use mathlib.Core.Path.{◌≡◌, refl, sym, ◌∙◌, ap}
use lib.Seq.{get_or-take, take_all}
use mathlib.Core.Bool.{Bool, true, false, cond}
use mathlib.Core.List.{List, [], ◌∷◌}
use native.Mathlib.Omega.{arith}
use native.Mathlib.Nat.{zero-add}
use lib.Dec.{leb}
use lib.ListN.{length, get_or}
use Rattle.lists.specs.Lists.{held, any_of, first_index, insert_at}
use Rattle.lists.proofs.Laws.{IndexLeft, held_within, length-held, index_le}
use Rattle.memory_access.specs.declared.Ipa.{Ipa}
use Rattle.stage2_range.specs.declared.PageRange.{PageRange}
use Rattle.stage2_range.specs.declared.Stage2Range.{Stage2Range}
use Rattle.stage2_range.specs.declared.MemoryAccessRegion.{MemoryAccessRegion}
use Rattle.stage2_range.specs.Ranges.{range_bytes, shares_byte, overlaps, overlaps_allowed}
use Rattle.stage2_range.specs.Registry.{region_bytes, has_address, overlaps_regions, find_region, found_values, insert_region}
use Rattle.stage2_range.proofs.Ranges.{OverlapLeft, overlap_begins, overlap_here, overlap_later}
use Rattle.stage2_range.proofs.Registry.{found_base, find_here, find_nothing, insert_region_lem}
use Rattle.lists.proofs.Places.{found_at, found_nowhere}
use Rattle.stage2.specs.Policy.{allowed_held, regions_held}
use Rattle.lent_words.specs.Words.{word_at, each, bytes_of, Left}
use Rattle.lent_words.proofs.Words.{length-each, get_d_each}
use Rattle.lent_policy.specs.Layout.{allowed_count_at, region_start, region_count_at, bytes_at, range_at, region_at, policy_at}
use Rattle.lent_policy.specs.Calls.{find_call}
use Rattle.lent_policy.proofs.Records.{region_of_lem}
use Rattle.lent_policy.proofs.Insertion.{take-each}
use Rattle.std.specs.Prelude.{position, None, Option, Some}

-- The bytes read of a region are those of the element of the array.
pub region_read : (policy : List ℕ) (k : ℕ) → k < 16 → (d : MemoryAccessRegion) → bytes_at policy (region_start k) ≡ region_bytes (get_or (each (region_at policy) 0 16) k d)
unfolding region_at
region_read policy k h d = ap region_bytes (sym (region_of_lem policy k d h))

-- A loop over `n` records, of which record `k` begins at word `at k`: whether one shares a byte is decided by those from a place on.
module _ (policy : List ℕ) (bytes : PageRange) (at : ℕ → ℕ) (n : ℕ) where
  abbrev some : Bool
  some = overlaps (bytes_at policy) (each at 0 n) bytes

  abbrev pub RecordsLeft : ℕ → Type 0
  RecordsLeft k = OverlapLeft (bytes_at policy) bytes (each at 0 n) n k some

  pub records_begin : RecordsLeft 0
  records_begin =
      let all : held n n (each at 0 n) ≡ each at 0 n = held_within n n (each at 0 n) (omega arith) ∙ take_all n (each at 0 n) (omega (arith, length-each at 0 n)) in
      let count : min n n ≡ n = omega arith in
      rw (all, count) at (overlap_begins (bytes_at policy) bytes n n (each at 0 n))

  module _ {k : ℕ} {t : Bool} (left : RecordsLeft k) (below : k < n) (tested : t ≡ shares_byte (bytes_at policy (at k)) bytes) where
    full : n ≤ length (each at 0 n)
    full = omega (arith, length-each at 0 n)

    read : bytes_at policy (at k) ≡ bytes_at policy (get_or (each at 0 n) k 0)
    read = ap (bytes_at policy) (sym (get_d_each at 0 n k 0 below ∙ ap at (zero-add k)))

    pub record_here : t ≡ true → true ≡ some
    record_here = overlap_here (bytes_at policy) bytes left below full 0 tested read

    pub record_later : t ≡ false → RecordsLeft (k + 1)
    record_later = overlap_later (bytes_at policy) bytes left below full 0 tested read

-- The records held are those of the policy.
overlaps_each : {A B : Type 0} (f : A → PageRange) (g : B → PageRange) (a : ℕ → A) (b : ℕ → B) (bytes : PageRange)
    → ((k : ℕ) → f (a k) ≡ g (b k)) → (k n : ℕ) → overlaps f (each a k n) bytes ≡ overlaps g (each b k n) bytes
unfolding overlaps
overlaps_each f g a b bytes same k zero = refl
overlaps_each f g a b bytes same k (suc n) =
    ap (λ (r : PageRange). cond (shares_byte r bytes) true (any_of (λ x. shares_byte (f x) bytes) (each a (suc k) n))) (same k)
    ∙ ap (cond (shares_byte (g (b k)) bytes) true) (overlaps_each f g a b bytes same (suc k) n)

module _ (policy : List ℕ) (bytes : PageRange) where
  pub ranges_overlap : overlaps (bytes_at policy) (each (λ k. 0 + 4 * k) 0 (min (word_at policy allowed_count_at) 32)) bytes
      ≡ overlaps_allowed (allowed_held (policy_at policy)) bytes
  unfolding policy_at range_at held
  ranges_overlap =
      let n = min (word_at policy allowed_count_at) 32 in
      overlaps_each (bytes_at policy) range_bytes (λ k. 0 + 4 * k) (range_at policy) bytes (λ k. ap (bytes_at policy) (zero-add (4 * k))) 0 n
      ∙ ap (λ (l : List Stage2Range). overlaps range_bytes l bytes) (sym (take-each (range_at policy) 0 32 n (omega arith)))

  pub regions_overlap : overlaps (bytes_at policy) (each region_start 0 (min (word_at policy region_count_at) 16)) bytes
      ≡ overlaps_regions (regions_held (policy_at policy)) bytes
  unfolding policy_at region_at held
  regions_overlap =
      let n = min (word_at policy region_count_at) 16 in
      overlaps_each (bytes_at policy) region_bytes region_start (region_at policy) bytes (λ k. refl) 0 n
      ∙ ap (λ (l : List MemoryAccessRegion). overlaps region_bytes l bytes) (sym (take-each (region_at policy) 0 16 n (omega arith)))

-- a loop that looks for the place of a range held, or of a region
pub ranges_index_begins : (policy : List ℕ) (fits : Stage2Range → Bool)
    → IndexLeft fits (each (range_at policy) 0 32) (min (word_at policy allowed_count_at) 32) 0 (first_index fits (allowed_held (policy_at policy)))
unfolding policy_at held
ranges_index_begins policy fits = record { within = omega arith; left = omega arith }

pub index_begins : (policy : List ℕ) (fits : MemoryAccessRegion → Bool)
    → IndexLeft fits (each (region_at policy) 0 16) (min (word_at policy region_count_at) 16) 0 (first_index fits (regions_held (policy_at policy)))
unfolding policy_at held
index_begins policy fits = record { within = omega arith; left = omega arith }

-- A search for the place of a region by its base.
module _ (policy : List ℕ) where
  -- it is among those held, or past them
  pub place_within : (base : ℕ) → first_index (λ s. leb base s.base_ipa) (regions_held (policy_at policy)) ≤ min (word_at policy region_count_at) 16
  unfolding policy_at
  place_within base =
      let regions = each (region_at policy) 0 16 in
      let n = word_at policy region_count_at in
      omega (arith, index_le (λ (s : MemoryAccessRegion). leb base s.base_ipa) (held 16 n regions), length-held 16 n regions (omega (arith, length-each (region_at policy) 0 16)))

  -- there the region is inserted
  pub inserted_there : (r : MemoryAccessRegion) → word_at policy region_count_at < 16 →
      let regions = each (region_at policy) 0 16 in
      let n = word_at policy region_count_at in
      insert_region regions n r ≡ insert_at regions n (first_index (λ s. leb r.base_ipa s.base_ipa) (regions_held (policy_at policy))) r
  unfolding policy_at
  inserted_there r h =
      insert_region_lem (each (region_at policy) 0 16) (word_at policy region_count_at) r (omega arith) (omega (arith, length-each (region_at policy) 0 16))

-- What a loop finds is what the library's `position` finds.
module _ {A : Type 0} (fits : A → Bool) (l : List A) {k n : ℕ} (long : length l ≡ n) (e : k ≡ first_index fits l) where
  pub found_there : k < n → Some k ≡ position fits l
  found_there h = go (position fits l) refl
    where
      go : (found : Option ℕ) → found ≡ position fits l → Some k ≡ found
      go None p = absurd (omega (arith, found_nowhere fits l (sym p), h))
      go (Some i) p = ap Some (e ∙ (found_at fits l i (sym p)).1)

  pub found_none : n ≤ k → None ≡ position fits l
  found_none h = go (position fits l) refl
    where
      go : (found : Option ℕ) → found ≡ position fits l → None ≡ found
      go None p = refl
      go (Some i) p = absurd (omega (arith, found_at fits l i (sym p), h))

-- As many are held as their counts say.
module _ (policy : List ℕ) where
  pub allowed_length : length (allowed_held (policy_at policy)) ≡ min (word_at policy allowed_count_at) 32
  unfolding policy_at
  allowed_length = length-held 32 (word_at policy allowed_count_at) (each (range_at policy) 0 32) (omega (arith, length-each (range_at policy) 0 32))

  pub regions_length : length (regions_held (policy_at policy)) ≡ min (word_at policy region_count_at) 16
  unfolding policy_at
  regions_length = length-held 16 (word_at policy region_count_at) (each (region_at policy) 0 16) (omega (arith, length-each (region_at policy) 0 16))

-- The place that a loop over the regions held gives: below their number it is the library's, else there is none.
module _ (policy : List ℕ) (ipa : ℕ) {k n : ℕ} (e : k ≡ first_index (has_address ipa) (regions_held (policy_at policy)))
    (held : n ≡ min (word_at policy region_count_at) 16) where
  pub place_found : k < n → position (has_address ipa) (regions_held (policy_at policy)) ≡ Some k
  place_found h = sym (found_there (has_address ipa) (regions_held (policy_at policy)) (regions_length policy) e (omega (arith, held)))

  pub place_missing : n ≤ k → position (has_address ipa) (regions_held (policy_at policy)) ≡ None
  place_missing h = sym (found_none (has_address ipa) (regions_held (policy_at policy)) (regions_length policy) e (omega (arith, held)))

-- A search for an address.
module _ (policy : List ℕ) (ipa : Ipa) {k : ℕ} (found : position (has_address ipa.0) (regions_held (policy_at policy)) ≡ Some k) where
  pub place_below : k < 16
  place_below = omega (arith, found_at (has_address ipa.0) (regions_held (policy_at policy)) k found, regions_length policy)

  read_there : get_or (regions_held (policy_at policy)) k (region_at policy 0) ≡ region_at policy k
  unfolding policy_at held
  read_there =
      let f = found_at (has_address ipa.0) (regions_held (policy_at policy)) k found in
      get_or-take (min (word_at policy region_count_at) 16) (each (region_at policy) 0 16) k (region_at policy 0) (omega (arith, f.0, regions_length policy))
      ∙ region_of_lem policy k (region_at policy 0) place_below

  -- the region found has the address
  pub base_below : (region_at policy k).base_ipa ≤ ipa.0
  base_below = rw read_there at (found_base (regions_held (policy_at policy)) ipa k (region_at policy 0) found)

  -- it is what the search answers
  pub region_here : Some (record { region = region_at policy k; offset = ipa.0 - (region_at policy k).base_ipa }) ≡ find_region (regions_held (policy_at policy)) ipa
  region_here = sym (rw read_there at (find_here (regions_held (policy_at policy)) ipa k (region_at policy 0) found))

pub region_nothing : (policy : List ℕ) (ipa : Ipa) → position (has_address ipa.0) (regions_held (policy_at policy)) ≡ None
    → None ≡ find_region (regions_held (policy_at policy)) ipa
region_nothing policy ipa none = sym (find_nothing (regions_held (policy_at policy)) ipa none)

-- What a search leaves.
module _ (policy : List ℕ) (ipa : ℕ) where
  abbrev leaves : List ℕ → Left
  leaves words = record { number = 0; state = policy; result = bytes_of words }

  -- the place of a region that is held, and the offset in it
  pub find-leaves : {k : ℕ} → position (has_address ipa) (regions_held (policy_at policy)) ≡ Some k
      → find_call policy ipa ≡ leaves (1 ∷ k ∷ (ipa - (region_at policy k).base_ipa) ∷ [])
  unfolding find_call
  find-leaves {k = k} found =
      rw ((found_at (has_address ipa) (regions_held (policy_at policy)) k found).1)
      (ap (λ f. leaves (found_values k f)) (sym (region_here policy (record { 0 = ipa }) found)))

  -- none
  pub none_leaves : position (has_address ipa) (regions_held (policy_at policy)) ≡ None → find_call policy ipa ≡ leaves (0 ∷ 0 ∷ 0 ∷ [])
  unfolding find_call
  none_leaves none = ap (λ f. leaves (found_values (first_index (has_address ipa) (regions_held (policy_at policy))) f)) (sym (region_nothing policy (record { 0 = ipa }) none))
