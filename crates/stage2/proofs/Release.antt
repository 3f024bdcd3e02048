-- Laws on release: its numbers, what it leaves in any state, and that a well-formed policy stays so. Assumes nothing.
use Prim.Native.Nat.{ℕ, ◌-◌, ◌≤◌, ◌<◌, min}
use mathlib.Core.Path.{◌≡◌, refl, sym, ◌∙◌, ap}
use mathlib.Core.Bool.{Bool, true, false, not, ◌||◌, cond}
use mathlib.Core.List.{List, [], ◌∷◌, Memᴰ}
use mathlib.Core.Logic.{◌⊎◌, inl, inr}
use native.Mathlib.Omega.{arith}
use borrow.Author.Tests.{lt-ltb, le-ltb, not-false}
use lib.ListN.{length}
use Rattle.lists.specs.Lists.{any_of, first_index, without_first, remove_at}
use Rattle.lists.specs.Refusals.{first_met}
use Rattle.lists.proofs.Laws.{any_none, length-held}
use Rattle.lists.proofs.Removal.{Loses, without_none, without_member, without_ascending, left_within, left-held, left_places, left_loses, held_at, one_fewer, remove_place}
use Rattle.stage2_range.specs.declared.Stage2ConfigError.TheVariants.{RangeNotHeld}
use Rattle.stage2_range.specs.declared.PageRange.{PageRange}
use Rattle.stage2_range.specs.declared.Stage2Range.{Stage2Range}
use Rattle.stage2_range.specs.declared.MemoryAccessRegion.{MemoryAccessRegion}
use Rattle.stage2_range.specs.Ranges.{after, answer_of, range_cases, validate_range, is_range, error_number, result_number}
use Rattle.stage2_range.specs.Registry.{is_region}
use Rattle.stage2_range.proofs.Ranges.{not_after, answer_number_lem, answer_after_lem, accepted_unmet, accepted_valid, valid_accepted, error_not_zero}
use Rattle.stage2.specs.declared.Policy.{Policy}
use Rattle.stage2.specs.Policy.{allowed_held, regions_held, built_by, range_held, region_held, not_held_cases, release_cases, release_answer, without_allowed, without_region, without_range, release_range}
use Rattle.stage2.specs.Builds.{CanRelease, AllApart, Disjoint, SameHeld, WellFormed}
use Rattle.stage2.proofs.Laws.{built_answer, built_refused}
use Rattle.stage2.proofs.Held.{same-held}
use Rattle.lists.proofs.Places.{found_at, found_nowhere}
use Rattle.std.specs.Prelude.{position, None, Some, Err, Ok, Result, ⊤}
use Rattle.stage2_range.specs.declared.Stage2ConfigError.{Stage2ConfigError}

module _ (p : Policy) (base size : ℕ) where
  -- what a release answers
  pub release_answer_lem : (release_range p base size).answer ≡ release_answer p base size
  unfolding release_range
  release_answer_lem = built_answer (release_answer p base size) p (without_range p base size)

  -- "23 .., after 1 to 4", first met wins
  pub release_number : result_number (release_range p base size).answer ≡ first_met error_number 0 (release_cases p base size)
  unfolding release_answer
  release_number = ap result_number release_answer_lem ∙ answer_number_lem (release_cases p base size)

  -- the arguments are tested first: past them the policy answers
  pub release_splits : release_answer p base size ≡ after (validate_range base size) (answer_of (not_held_cases p base size))
  unfolding release_answer validate_range
  release_splits = answer_after_lem (range_cases base size) (not_held_cases p base size)

  -- what a refusal of the arguments answers, and what answers past them
  pub release_unfit : (e : Stage2ConfigError) → validate_range base size ≡ Err e → release_answer p base size ≡ Err e
  release_unfit e h = rw (release_splits, h)

  pub release_past : validate_range base size ≡ Ok tt → release_answer p base size ≡ answer_of (not_held_cases p base size)
  release_past h = rw (release_splits, h)

  -- "A refusal returns its number .., and all state is as before"
  pub release_refused : (result_number (release_range p base size).answer ≡ 0 → ⊥) → (release_range p base size).policy ≡ p
  unfolding release_range
  release_refused h = built_refused (release_answer p base size) p (without_range p base size) h

  -- A range is released exactly where its arguments fit and a record with them is held.
  pub release_accepted : (release_range p base size).answer ≡ Ok tt → CanRelease p base size
  release_accepted h =
      let a = not_after (validate_range base size) _ (sym (release_answer_lem ∙ release_splits) ∙ h) in
      let unmet = accepted_unmet (not_held_cases p base size) a.1 in
      record { fits = accepted_valid base size a.0; is_held = not-false _ unmet.0 }

  pub can_release : CanRelease p base size → release_range p base size ≡ record { answer = Ok tt; policy = without_range p base size }
  unfolding release_range
  can_release c = rw (release_splits, valid_accepted base size c.fits, c.is_held)

  -- an accepted release takes one of two ways
  pub by_list : (P : Policy → Type 0) → CanRelease p base size → (range_held p base size ≡ true → P (without_allowed p base size))
      → (range_held p base size ≡ false → region_held p base size ≡ true → P (without_region p base size)) → P (release_range p base size).policy
  by_list P c f g = rw (can_release c) (go (range_held p base size) refl c.is_held)
    where
      go : (b : Bool) → range_held p base size ≡ b → (b || region_held p base size) ≡ true
          → P (cond b (without_allowed p base size) (without_region p base size))
      go true e h = f e
      go false e h = g e h

  -- and any release one of three
  pub by_answer : (P : Policy → Type 0) → P p → (range_held p base size ≡ true → P (without_allowed p base size))
      → (range_held p base size ≡ false → region_held p base size ≡ true → P (without_region p base size)) → P (release_range p base size).policy
  by_answer P kept f g = go (release_range p base size).answer refl
    where
      go : (s : Result ⊤ Stage2ConfigError) → (release_range p base size).answer ≡ s → P (release_range p base size).policy
      go (Ok _) h = by_list P (release_accepted h) f g
      go (Err e) h = rw (release_refused (λ z. error_not_zero e (sym (ap result_number h) ∙ z))) kept

-- Policies with 32 and 16 places, as arrays have them, with counts and records as they may be.
module _ (p : Policy) (base size : ℕ) (full : 32 ≤ length p.allowed) (full' : 16 ≤ length p.regions) where
  pub allowed_without : allowed_held (without_allowed p base size) ≡ without_first (is_range base size) (allowed_held p)
  unfolding without_allowed
  allowed_without = left-held (is_range base size) 32 p.allowed_count p.allowed full

  pub regions-without : regions_held (without_region p base size) ≡ without_first (is_region base size) (regions_held p)
  unfolding without_region
  regions-without = left-held (is_region base size) 16 p.region_count p.regions full'

  -- there are as many places after a release
  pub release_places : (32 ≤ length (release_range p base size).policy.allowed) × (16 ≤ length (release_range p base size).policy.regions)
  unfolding without_allowed without_region
  release_places =
      by_answer p base size (λ q. (32 ≤ length q.allowed) × (16 ≤ length q.regions)) (full, full')
      (λ e. (omega (arith, left_places (is_range base size) 32 p.allowed_count p.allowed full), full'))
      (λ e k. (full, omega (arith, left_places (is_region base size) 16 p.region_count p.regions full')))

  -- By the places that a search finds: a range goes, ..
  abbrev range_place : ℕ
  range_place = first_index (is_range base size) (allowed_held p)

  abbrev region_place : ℕ
  region_place = first_index (is_region base size) (regions_held p)

  pub range_goes : range_place < min p.allowed_count 32
      → built_by (answer_of (not_held_cases p base size)) p (without_range p base size) ≡ record {
        answer = Ok tt;
        policy = record {
          allowed = remove_at p.allowed (min p.allowed_count 32) range_place;
          allowed_count = min p.allowed_count 32 - 1;
          regions = p.regions;
          region_count = p.region_count;
        };
      }
  unfolding without_allowed
  range_goes h =
      let fits = is_range base size in
      let n = p.allowed_count in
      rw (
        held_at fits 32 n p.allowed full ∙ lt-ltb _ _ h,
        remove_place fits 32 n p.allowed full h,
        one_fewer fits 32 n p.allowed full h,
      )

  -- .. or no range and a region does, ..
  pub region_goes : min p.allowed_count 32 ≤ range_place → region_place < min p.region_count 16
      → built_by (answer_of (not_held_cases p base size)) p (without_range p base size) ≡ record {
        answer = Ok tt;
        policy = record {
          allowed = p.allowed;
          allowed_count = p.allowed_count;
          regions = remove_at p.regions (min p.region_count 16) region_place;
          region_count = min p.region_count 16 - 1;
        };
      }
  unfolding without_region
  region_goes h k =
      let fits = is_region base size in
      let n = p.region_count in
      rw (
        held_at (is_range base size) 32 p.allowed_count p.allowed full ∙ le-ltb _ _ h,
        held_at fits 16 n p.regions full' ∙ lt-ltb _ _ k,
        remove_place fits 16 n p.regions full' k,
        one_fewer fits 16 n p.regions full' k,
      )

  -- .. or nothing does
  pub none_goes : min p.allowed_count 32 ≤ range_place → min p.region_count 16 ≤ region_place
      → built_by (answer_of (not_held_cases p base size)) p (without_range p base size) ≡ record { answer = Err RangeNotHeld; policy = p }
  none_goes h k =
      rw (
        held_at (is_range base size) 32 p.allowed_count p.allowed full ∙ le-ltb _ _ h,
        held_at (is_region base size) 16 p.region_count p.regions full' ∙ le-ltb _ _ k,
      )

  -- The same by the library's `position` among the ranges that are held, ..
  module _ {ranges : List Stage2Range} (are_held : ranges ≡ allowed_held p) where
    ranges_length : length ranges ≡ min p.allowed_count 32
    ranges_length = ap length are_held ∙ length-held 32 p.allowed_count p.allowed full

    ranges_place : first_index (is_range base size) ranges ≡ range_place
    ranges_place = ap (first_index (is_range base size)) are_held

    module _ {at : ℕ} (found : position (is_range base size) ranges ≡ Some at) where
      pub range_within : (at < length ranges) × (length ranges ≤ length p.allowed)
      range_within = ((found_at (is_range base size) ranges at found).0, omega (arith, ranges_length))

      pub range_found : record {
        answer = Ok tt;
        policy = record {
          allowed = remove_at p.allowed (length ranges) at;
          allowed_count = length ranges - 1;
          regions = p.regions;
          region_count = p.region_count;
        };
      } ≡ built_by (answer_of (not_held_cases p base size)) p (without_range p base size)
      range_found =
          let f = found_at (is_range base size) ranges at found in
          let place : at ≡ range_place = sym f.1 ∙ ranges_place in
          rw (ranges_length, place) (sym (range_goes (omega (arith, f.0, place, ranges_length))))

    range_missed : position (is_range base size) ranges ≡ None → min p.allowed_count 32 ≤ range_place
    range_missed none = omega (arith, found_nowhere (is_range base size) ranges none, ranges_length, ranges_place)

    -- .. and the regions
    module _ {regions : List MemoryAccessRegion} (regions_are_held : regions ≡ regions_held p) (no_range : position (is_range base size) ranges ≡ None) where
      regions_length : length regions ≡ min p.region_count 16
      regions_length = ap length regions_are_held ∙ length-held 16 p.region_count p.regions full'

      regions_place : first_index (is_region base size) regions ≡ region_place
      regions_place = ap (first_index (is_region base size)) regions_are_held

      module _ {at : ℕ} (found : position (is_region base size) regions ≡ Some at) where
        pub region_within : (at < length regions) × (length regions ≤ length p.regions)
        region_within = ((found_at (is_region base size) regions at found).0, omega (arith, regions_length))

        pub region_found : record {
          answer = Ok tt;
          policy = record {
            allowed = p.allowed;
            allowed_count = p.allowed_count;
            regions = remove_at p.regions (length regions) at;
            region_count = length regions - 1;
          };
        } ≡ built_by (answer_of (not_held_cases p base size)) p (without_range p base size)
        region_found =
            let f = found_at (is_region base size) regions at found in
            let place : at ≡ region_place = sym f.1 ∙ regions_place in
            rw (regions_length, place) (sym (region_goes (range_missed no_range) (omega (arith, f.0, place, regions_length))))

      pub none_found : position (is_region base size) regions ≡ None
          → record { answer = Err RangeNotHeld; policy = p } ≡ built_by (answer_of (not_held_cases p base size)) p (without_range p base size)
      none_found none =
          sym (none_goes (range_missed no_range) (omega (arith, found_nowhere (is_region base size) regions none, regions_length, regions_place)))

pub ruleset release_by_arguments = (release_unfit, release_past)

-- In any state: the allowed ranges lose their first match, and nothing else changes, ..
pub record AllowedLose (p q : Policy) (base size : ℕ) : Type 0 where
  pub loses : Loses (is_range base size) 32 p.allowed_count p.allowed q.allowed_count q.allowed
  pub regions_kept : q.regions ≡ p.regions
  pub region_count_kept : q.region_count ≡ p.region_count

-- .. or no allowed range matches, the regions lose their first match, and nothing else changes
pub record RegionsLose (p q : Policy) (base size : ℕ) : Type 0 where
  pub no_range : (r : Stage2Range) → Memᴰ r (allowed_held p) → is_range base size r ≡ false
  pub loses : Loses (is_region base size) 16 p.region_count p.regions q.region_count q.regions
  pub allowed_kept : q.allowed ≡ p.allowed
  pub allowed_count_kept : q.allowed_count ≡ p.allowed_count

pub release_one : (p : Policy) (base size : ℕ) → 32 ≤ length p.allowed → 16 ≤ length p.regions
    → (release_range p base size).answer ≡ Ok tt
    → let q = (release_range p base size).policy in
    AllowedLose p q base size ⊎ RegionsLose p q base size
unfolding without_allowed without_region
release_one p base size full full' h =
    by_list p base size (λ q. AllowedLose p q base size ⊎ RegionsLose p q base size) (release_accepted p base size h)
    (λ e. inl (record {
      loses = left_loses (is_range base size) 32 p.allowed_count p.allowed full e;
      regions_kept = refl;
      region_count_kept = refl;
    }))
    (λ e k. inr (record {
      no_range = any_none (is_range base size) (allowed_held p) e;
      loses = left_loses (is_region base size) 16 p.region_count p.regions full' k;
      allowed_kept = refl;
      allowed_count_kept = refl;
    }))

-- Records that are disjoint whole pages stay so without one of them.
module _ {A : Type 0} (size_of : A → ℕ) (bytes_of : A → PageRange) (fits : A → Bool) where
  without_apart : (l : List A) → AllApart bytes_of l → AllApart bytes_of (without_first fits l)
  without_apart [] a = tt
  without_apart (x ∷ xs) a = go (fits x) (without_apart xs a.1)
    where
      go : (b : Bool) → AllApart bytes_of (without_first fits xs) → AllApart bytes_of (cond b xs (x ∷ without_first fits xs))
      go true ih = a.1
      go false ih = ((λ y m. a.0 y (without_member fits xs y m)), ih)

  without_disjoint : (l : List A) → Disjoint size_of bytes_of l → Disjoint size_of bytes_of (without_first fits l)
  without_disjoint l d = record {
    valid = λ x m. d.valid x (without_member fits l x m);
    whole = λ x m. d.whole x (without_member fits l x m);
    apart = without_apart l d.apart;
  }

-- A well-formed policy has its places, and stays well formed.
module _ (p : Policy) (w : WellFormed p) where
  pub ranges-full : 32 ≤ length p.allowed
  ranges-full = omega (arith, w.allowed_places.all)

  pub regions-full : 16 ≤ length p.regions
  regions-full = omega (arith, w.region_places.all)

module _ (p : Policy) (base size : ℕ) (w : WellFormed p) where
  pub without_allowed_keeps : WellFormed (without_allowed p base size)
  unfolding without_allowed
  without_allowed_keeps =
      let fits = is_range base size in
      let e = allowed_without p base size (ranges-full p w) (regions-full p w) in
      let places = left_places fits 32 p.allowed_count p.allowed (ranges-full p w) in
      record {
        allowed_places = record {
          all = places ∙ w.allowed_places.all;
          within = omega (arith, left_within fits 32 p.allowed_count p.allowed (ranges-full p w));
        };
        region_places = w.region_places;
        allowed_disjoint = rw e (without_disjoint _ _ fits (allowed_held p) w.allowed_disjoint);
        regions_disjoint = w.regions_disjoint;
        lists_apart = rw e (λ a m. w.lists_apart a (without_member fits (allowed_held p) a m));
        ascending = w.ascending;
      }

  without_region_keeps : WellFormed (without_region p base size)
  unfolding without_region
  without_region_keeps =
      let fits = is_region base size in
      let e = regions-without p base size (ranges-full p w) (regions-full p w) in
      let places = left_places fits 16 p.region_count p.regions (regions-full p w) in
      record {
        allowed_places = w.allowed_places;
        region_places = record {
          all = places ∙ w.region_places.all;
          within = omega (arith, left_within fits 16 p.region_count p.regions (regions-full p w));
        };
        allowed_disjoint = w.allowed_disjoint;
        regions_disjoint = rw e (without_disjoint _ _ fits (regions_held p) w.regions_disjoint);
        lists_apart = λ a n. rw e (λ r m. w.lists_apart a n r (without_member fits (regions_held p) r m));
        ascending = rw e (without_ascending _ fits 0 (regions_held p) w.ascending);
      }

  pub release_keeps : WellFormed (release_range p base size).policy
  release_keeps = by_answer p base size WellFormed w (λ e. without_allowed_keeps) (λ e k. without_region_keeps)

-- the first where the arguments fit, else the second
abbrev pub where_valid : {A : Type 0} → Result ⊤ Stage2ConfigError → A → A → A
where_valid (Ok _) x y = x
where_valid (Err e) x y = y

-- the lists held after a release, by those held before: a list without a match stays as it was, so this is so of a refusal too
abbrev pub allowed_after : ℕ → ℕ → List Stage2Range → List Stage2Range
allowed_after base size l = where_valid (validate_range base size) (without_first (is_range base size) l) l

abbrev pub regions_after : ℕ → ℕ → List Stage2Range → List MemoryAccessRegion → List MemoryAccessRegion
regions_after base size l r =
    where_valid (validate_range base size) (cond (any_of (is_range base size) l) r (without_first (is_region base size) r)) r

-- In any state, accepted or refused, what is held after a release is told by what was held.
module _ (p : Policy) (base size : ℕ) (full : 32 ≤ length p.allowed) (full' : 16 ≤ length p.regions) where
  abbrev Holds : List Stage2Range → List MemoryAccessRegion → Policy → Type 0
  Holds l r q = (allowed_held q ≡ l) × (regions_held q ≡ r)

  -- where the arguments fit
  valid_holds : (a b : Bool) → range_held p base size ≡ a → region_held p base size ≡ b
      → Holds (without_first (is_range base size) (allowed_held p)) (cond a (regions_held p) (without_first (is_region base size) (regions_held p)))
      (built_by (cond (not (a || b)) (Err RangeNotHeld) (Ok tt)) p (cond a (without_allowed p base size) (without_region p base size))).policy
  unfolding without_allowed without_region
  valid_holds true b e k = (allowed_without p base size full full', refl)
  valid_holds false true e k =
      (sym (without_none (is_range base size) (allowed_held p) (any_none _ (allowed_held p) e)), regions-without p base size full full')
  valid_holds false false e k = (
    sym (without_none (is_range base size) (allowed_held p) (any_none _ (allowed_held p) e)),
    sym (without_none (is_region base size) (regions_held p) (any_none _ (regions_held p) k)),
  )

  pub release_holds : Holds (allowed_after base size (allowed_held p)) (regions_after base size (allowed_held p) (regions_held p))
      (release_range p base size).policy
  unfolding release_range
  release_holds = rw (release_splits p base size) (go (validate_range base size))
    where
      go : (v : Result ⊤ Stage2ConfigError)
          → Holds (where_valid v (without_first (is_range base size) (allowed_held p)) (allowed_held p))
          (where_valid v (cond (range_held p base size) (regions_held p) (without_first (is_region base size) (regions_held p))) (regions_held p))
          (built_by (after v (answer_of (not_held_cases p base size))) p (without_range p base size)).policy
      go (Ok _) = valid_holds (range_held p base size) (region_held p base size) refl refl
      go (Err e) = (refl, refl)

-- Policies that hold the same answer a release the same, and hold the same after it.
module _ (p q : Policy) (same : SameHeld p q) (base size : ℕ) where
  pub release_answer-held : (release_range p base size).answer ≡ (release_range q base size).answer
  unfolding release_answer
  release_answer-held = rw (release_answer_lem p base size, release_answer_lem q base size, same.allowed, same.regions)

  pub release_same-held : WellFormed p → WellFormed q → SameHeld (release_range p base size).policy (release_range q base size).policy
  release_same-held w w' =
      let h = release_holds p base size (ranges-full p w) (regions-full p w) in
      let k = release_holds q base size (ranges-full q w') (regions-full q w') in
      same-held _ _ (release_keeps p base size w) (release_keeps q base size w')
      (h.0 ∙ ap (allowed_after base size) same.allowed ∙ sym k.0)
      (h.1 ∙ (λ i. regions_after base size (same.allowed i) (same.regions i)) ∙ sym k.1)
