-- Laws of a release in lent bytes: what a search reads, what a removal stores, and what the call leaves by the place found. Assumes nothing.
use Prim.Native.Nat.{ℕ, zero, suc, ◌+◌, ◌*◌, ◌-◌, ◌≤◌, ◌<◌, min}
use mathlib.Core.Path.{◌≡◌, refl, sym, ap, ◌∙◌}
use mathlib.Core.Bool.{Bool}
use mathlib.Core.List.{List, []}
use native.Mathlib.Omega.{arith}
use native.Mathlib.Nat.{zero-add}
use borrow.Author.Tests.{lt-ltb, le-ltb, ne_eqb}
use lib.ListN.{length, get_or}
use Rattle.lists.specs.Lists.{held, first_index, remove_at}
use Rattle.lists.proofs.Removal.{held_at}
use Rattle.stage2_range.specs.declared.Stage2ConfigError.{Stage2ConfigError}
use Rattle.stage2_range.specs.declared.Stage2ConfigError.TheVariants.{RangeNotHeld}
use Rattle.stage2_range.specs.declared.Stage2Range.{Stage2Range}
use Rattle.stage2_range.specs.declared.MemoryAccessRegion.{MemoryAccessRegion}
use Rattle.stage2_range.specs.Ranges.{validate_range, is_range, error_number}
use Rattle.stage2_range.specs.Registry.{is_region}
use Rattle.stage2_range.proofs.Ranges.{error_not_zero}
use Rattle.stage2.specs.Policy.{allowed_held, regions_held, release_range}
use Rattle.stage2.proofs.Release.{release_splits, range_goes, region_goes, none_goes}
use Rattle.lent_words.specs.Words.{word_at, with_word, each, Left, Lent}
use Rattle.lent_words.proofs.Words.{length-each, get_d_each}
use Rattle.lent_policy.specs.Layout.{policy_size, allowed_count_at, region_start, region_count_at, range_at, with_range, region_at, with_region, policy_at, with_allowed, with_regions}
use Rattle.lent_policy.proofs.Records.{range_beside, region_beside}
use Rattle.lent_policy.proofs.InPlace.{range_lent, range_rewritten, region_lent, region_rewritten}
use Rattle.lent_release.specs.Calls.{is_stored, stored_place, release_call, valid_release_call}
use Rattle.lent_release.proofs.Removal.{InBytes, closed, close_done}
use Rattle.lists.proofs.Places.{found_at, found_nowhere}
use Rattle.lent_policy.proofs.Insertion.{take-each}
use Rattle.lent_policy.proofs.Search.{allowed_length, regions_length}
use Rattle.std.specs.List.{position_or_len}
use Rattle.std.specs.Prelude.{Option, position, Err, None, Ok, Some}

-- What stands at places, tested in two ways that agree, has the same first place.
module _ {A B : Type 0} (p : A → Bool) (q : B → Bool) (g : ℕ → A) (h : ℕ → B) (agree : (k : ℕ) → p (g k) ≡ q (h k)) where
  places_same : (i n : ℕ) → position_or_len p (each g i n) ≡ position_or_len q (each h i n)
  places_same i zero = refl
  places_same i (suc n) = rw (agree i, places_same (suc i) n)

  position_same : (n : ℕ) → position p (each g 0 n) ≡ position q (each h 0 n)
  position_same n = rw (places_same 0 n, length-each g 0 n, length-each h 0 n)

-- What a search by the words of the records held answers, a search by their bases and sizes does.
module _ (b : List ℕ) (base size : ℕ) {n : ℕ} {r v : Option ℕ} where
  pub range_searched : n ≡ min (word_at b allowed_count_at) 32 → r ≡ stored_place b 0 4 n base size → r ≡ v
      → position (is_range base size) (allowed_held (policy_at b)) ≡ v
  unfolding policy_at held range_at
  range_searched e s f =
      rw (← e, take-each (range_at b) 0 32 n (omega arith))
      (sym (position_same (λ at. is_stored b at base size) (is_range base size) (λ k. 0 + 4 * k) (range_at b) (λ k. rw (zero-add (4 * k))) n) ∙ sym s ∙ f)

  pub region_searched : n ≡ min (word_at b region_count_at) 16 → r ≡ stored_place b (allowed_count_at + 1) 5 n base size → r ≡ v
      → position (is_region base size) (regions_held (policy_at b)) ≡ v
  unfolding policy_at held region_at
  region_searched e s f =
      rw (← e, take-each (region_at b) 0 16 n (omega arith))
      (sym (position_same (λ at. is_stored b at base size) (is_region base size) region_start (region_at b) (λ k. refl) n) ∙ sym s ∙ f)

-- What a test of its words says of the record at a place.
module _ (b : List ℕ) (base size first record_words n i : ℕ) {t v : Bool} where
  pub record_told : i < n → t ≡ is_stored b (first + record_words * i) base size → t ≡ v
      → is_stored b (get_or (each (λ k. first + record_words * k) 0 n) i 0) base size ≡ v
  record_told h e f =
      let there : get_or (each (λ k. first + record_words * k) 0 n) i 0 ≡ first + record_words * i =
      get_d_each (λ k. first + record_words * k) 0 n i 0 h ∙ ap (λ k. first + record_words * k) (zero-add i) in
      rw there (sym e ∙ f)

-- The two arrays of a policy.
abbrev pub ranges : InBytes Stage2Range
ranges = record { get = range_at; put = with_range; stays = range_lent; same = range_rewritten; other = range_beside }

abbrev pub regions : InBytes MemoryAccessRegion
regions = record { get = region_at; put = with_region; stays = region_lent; same = region_rewritten; other = region_beside }

-- With those after a place one place sooner, and counted, the bytes hold the array without it.
module _ (b : List ℕ) (at n : ℕ) (lent : Lent policy_size b) (h : at < n) where
  pub ranges-closed : n ≤ 32
      → with_word (closed ranges b at (n - 1)) allowed_count_at (n - 1) ≡ with_allowed b (remove_at (each (range_at b) 0 32) n at) (n - 1)
  unfolding with_allowed
  ranges-closed room = ap (λ (c : List ℕ). with_word c allowed_count_at (n - 1)) (close_done ranges b at 32 n h room lent)

  pub regions-closed : n ≤ 16
      → with_word (closed regions b at (n - 1)) region_count_at (n - 1) ≡ with_regions b (remove_at (each (region_at b) 0 16) n at) (n - 1)
  unfolding with_regions
  regions-closed room = ap (λ (c : List ℕ). with_word c region_count_at (n - 1)) (close_done regions b at 16 n h room lent)

-- What a release leaves.
abbrev leaves : ℕ → List ℕ → Left
leaves number state = record { number = number; state = state; result = [] }

-- Where the arguments fit, by the places that the searches find.
module _ (b : List ℕ) (base size : ℕ) where
  abbrev range_place : ℕ
  range_place = first_index (is_range base size) (allowed_held (policy_at b))

  abbrev region_place : ℕ
  region_place = first_index (is_region base size) (regions_held (policy_at b))

  abbrev ranges_held : ℕ
  ranges_held = min (word_at b allowed_count_at) 32

  abbrev regions_held_lem : ℕ
  regions_held_lem = min (word_at b region_count_at) 16

  full : 32 ≤ length (policy_at b).allowed
  unfolding policy_at
  full = omega (arith, length-each (range_at b) 0 32)

  full' : 16 ≤ length (policy_at b).regions
  unfolding policy_at
  full' = omega (arith, length-each (region_at b) 0 16)

  pub range_leaves : range_place < ranges_held
      → valid_release_call b base size ≡ leaves 0 (with_allowed b (remove_at (each (range_at b) 0 32) ranges_held range_place) (ranges_held - 1))
  unfolding valid_release_call policy_at
  range_leaves h =
      let p = policy_at b in
      rw (range_goes p base size full full' h, held_at (is_range base size) 32 p.allowed_count p.allowed full ∙ lt-ltb _ _ h)

  pub region_leaves : ranges_held ≤ range_place → region_place < regions_held_lem
      → valid_release_call b base size ≡ leaves 0 (with_regions b (remove_at (each (region_at b) 0 16) regions_held_lem region_place) (regions_held_lem - 1))
  unfolding valid_release_call policy_at
  region_leaves h k =
      let p = policy_at b in
      rw (region_goes p base size full full' h k, held_at (is_range base size) 32 p.allowed_count p.allowed full ∙ le-ltb _ _ h)

  pub none_leaves : ranges_held ≤ range_place → regions_held_lem ≤ region_place → valid_release_call b base size ≡ leaves (error_number RangeNotHeld) b
  unfolding valid_release_call policy_at
  none_leaves h k = rw (none_goes (policy_at b) base size full full' h k)

  -- The same by what the searches find: a range, ..
  module _ {at : ℕ} (found : position (is_range base size) (allowed_held (policy_at b)) ≡ Some at) where
    pub range_within : at < ranges_held
    range_within = omega (arith, (found_at (is_range base size) (allowed_held (policy_at b)) at found).0, allowed_length b)

    pub range_released : valid_release_call b base size ≡ leaves 0 (with_allowed b (remove_at (each (range_at b) 0 32) ranges_held at) (ranges_held - 1))
    range_released =
        let place : range_place ≡ at = (found_at (is_range base size) (allowed_held (policy_at b)) at found).1 in
        rw place at (range_leaves (omega (arith, place, range_within)))

  -- .. no range and a region, ..
  module _ (no_range : position (is_range base size) (allowed_held (policy_at b)) ≡ None) where
    past_ranges : ranges_held ≤ range_place
    past_ranges = omega (arith, found_nowhere (is_range base size) (allowed_held (policy_at b)) no_range, allowed_length b)

    module _ {at : ℕ} (found : position (is_region base size) (regions_held (policy_at b)) ≡ Some at) where
      pub region_within : at < regions_held_lem
      region_within = omega (arith, (found_at (is_region base size) (regions_held (policy_at b)) at found).0, regions_length b)

      pub region_released : valid_release_call b base size ≡ leaves 0 (with_regions b (remove_at (each (region_at b) 0 16) regions_held_lem at) (regions_held_lem - 1))
      region_released =
          let place : region_place ≡ at = (found_at (is_region base size) (regions_held (policy_at b)) at found).1 in
          rw place at (region_leaves past_ranges (omega (arith, place, region_within)))

    -- .. or neither
    pub none_released : position (is_region base size) (regions_held (policy_at b)) ≡ None
        → valid_release_call b base size ≡ leaves (error_number RangeNotHeld) b
    none_released none =
        none_leaves past_ranges (omega (arith, found_nowhere (is_region base size) (regions_held (policy_at b)) none, regions_length b))

  -- "23 .., after 1 to 4": a refusal of the arguments, or what follows it
  pub refused-first : (e : Stage2ConfigError) → validate_range base size ≡ Err e → release_call b base size ≡ leaves (error_number e) b
  unfolding release_call release_range
  refused-first e h = rw (release_splits (policy_at b) base size, h, ne_eqb (error_number e) 0 (error_not_zero e))

  pub then_valid : validate_range base size ≡ Ok tt → release_call b base size ≡ valid_release_call b base size
  unfolding release_call valid_release_call release_range
  then_valid h = rw (release_splits (policy_at b) base size, h)
