-- `handle_range` and `release_range` on lent bytes: the policy that the bytes then hold is the one that the library's call hands back. Assumes
-- nothing.
use Prim.Native.Nat.{ℕ, ◌+◌, ◌<◌}
use mathlib.Core.Path.{◌≡◌, refl, sym, ap, subst, ◌∙◌}
use mathlib.Core.Bool.{Bool, true, false, cond}
use mathlib.Core.List.{List}
use native.Mathlib.Omega.{arith}
use borrow.Author.Tests.{ne_eqb}
use lib.Dec.{leb}
use lib.ListN.{length, take, drop, take-append-drop}
use Rattle.lists.proofs.Removal.{left_within, left_places, every_left}
use Rattle.lent_words.specs.Words.{FitsWord, Lent}
use Rattle.lent_words.proofs.Words.{length-each}
use Rattle.lent_words.proofs.RoundTrip.{Every}
use Rattle.lent_words.proofs.Every.{every_each, every_append, every_take, every_drop, every_insert}
use Rattle.stage2_range.specs.declared.MemoryAccessRegion.{MemoryAccessRegion}
use Rattle.stage2_range.specs.Ranges.{is_range, error_number, result_number}
use Rattle.stage2_range.specs.Registry.{region_of, is_region, insert_region}
use Rattle.stage2_range.proofs.Registry.{insert_by_base, insert_rest}
use Rattle.stage2.specs.declared.Policy.{Policy}
use Rattle.stage2.specs.Policy.{built_by, handle_answer, handle_range, range_held, without_allowed, without_region, release_range}
use Rattle.stage2.specs.Policy as policy
use Rattle.stage2.proofs.WellFormed.{inserted_places}
use Rattle.stage2_range.proofs.Ranges.{error_not_zero}
use Rattle.stage2.proofs.Laws.{handle_accepted}
use Rattle.stage2.proofs.Release.{release_refused, release_accepted, can_release}
use Rattle.lent_policy.specs.Layout.{policy_size, range_at, region_at, policy_at, with_regions, with_allowed_of, with_regions_of}
use Rattle.lent_policy.proofs.Records.{RangeFits, RegionFits, asked_region_fits, range_fits, region_fits_lem}
use Rattle.lent_policy.proofs.States.{allowed_back, regions_back}
use Rattle.ritm.specs.Interface.{unless_refused, handle_call, release_call}
use Rattle.std.specs.Prelude.{Err, Ok, Result, ⊤}
use Rattle.stage2_range.specs.declared.Stage2ConfigError.{Stage2ConfigError}

-- regions with one more fit words
inserted_fits : (rs : List MemoryAccessRegion) (n : ℕ) (r : MemoryAccessRegion) → n < length rs → Every RegionFits rs → RegionFits r
    → Every RegionFits (insert_region rs n r)
inserted_fits rs n r room all one =
    subst (Every RegionFits) (take-append-drop (n + 1) (insert_region rs n r))
    (every_append RegionFits (take (n + 1) (insert_region rs n r)) (drop (n + 1) (insert_region rs n r))
    (rw (insert_by_base rs n r room) (every_insert RegionFits (λ x. leb r.base_ipa x.base_ipa) r (take n rs) (every_take RegionFits n rs all) one))
    (rw (insert_rest rs n r room) (every_drop RegionFits (n + 1) rs all)))

-- `ritm_handle_range`
pub handle_held : (b : List ℕ) (base size read write : ℕ) → Lent policy_size b → FitsWord base → FitsWord size
    → policy_at (handle_call b base size read write).state ≡ (handle_range (policy_at b) base size read write).policy
unfolding handle_call handle_range policy_at policy.add_region
handle_held b base size read write lent f g = go (handle_answer p base size read write) refl
  where
    p : Policy
    p = policy_at b

    region : MemoryAccessRegion
    region = region_of base size read write

    next : Policy
    next = policy.add_region p region

    go : (answer : Result ⊤ Stage2ConfigError) → handle_answer p base size read write ≡ answer
        → policy_at (unless_refused (result_number (built_by answer p next).answer) b (with_regions b (built_by answer p next).policy.regions (built_by answer p next).policy.region_count))
        ≡ (built_by answer p next).policy
    go (Err e) q = rw (ne_eqb (error_number e) 0 (error_not_zero e))
    go (Ok tt) q =
        let can = handle_accepted p base size read write (ap (λ a. (built_by a p next).answer) q) in
        let long = length-each (region_at b) 0 16 in
        regions_back b (insert_region p.regions p.region_count region) (p.region_count + 1) lent
        (inserted_places p.regions p.region_count region (omega (arith, can.room, long)) ∙ long)
        (inserted_fits p.regions p.region_count region (omega (arith, can.room, long)) (every_each RegionFits (region_at b) (region_fits_lem b lent.bytes) 0 16) (asked_region_fits base size read write f g))
        (omega (arith, can.room))

-- `ritm_release_range`: a policy without a record stands in the bytes that its list is stored to
module _ (b : List ℕ) (base size : ℕ) (lent : Lent policy_size b) where
  allowed_less : policy_at (with_allowed_of b (without_allowed (policy_at b) base size)) ≡ without_allowed (policy_at b) base size
  unfolding policy_at without_allowed
  allowed_less =
      let p = policy_at b in
      let fits = is_range base size in
      let long = length-each (range_at b) 0 32 in
      allowed_back b _ _ lent.long (left_places fits 32 p.allowed_count p.allowed (omega (arith, long)) ∙ long)
      (every_left RangeFits fits 32 p.allowed_count p.allowed (every_each RangeFits (range_at b) (range_fits b lent.bytes) 0 32))
      (omega (arith, left_within fits 32 p.allowed_count p.allowed (omega (arith, long))))

  regions-less : policy_at (with_regions_of b (without_region (policy_at b) base size)) ≡ without_region (policy_at b) base size
  unfolding policy_at without_region
  regions-less =
      let p = policy_at b in
      let fits = is_region base size in
      let long = length-each (region_at b) 0 16 in
      regions_back b _ _ lent (left_places fits 16 p.region_count p.regions (omega (arith, long)) ∙ long)
      (every_left RegionFits fits 16 p.region_count p.regions (every_each RegionFits (region_at b) (region_fits_lem b lent.bytes) 0 16))
      (omega (arith, left_within fits 16 p.region_count p.regions (omega (arith, long))))

  pub release_held : policy_at (release_call b base size).state ≡ (release_range (policy_at b) base size).policy
  unfolding release_call
  release_held = go (release_range p base size).answer refl
    where
      p : Policy
      p = policy_at b

      by : (a : Bool) → policy_at (cond a (with_allowed_of b (cond a (without_allowed p base size) (without_region p base size))) (with_regions_of b (cond a (without_allowed p base size) (without_region p base size))))
          ≡ cond a (without_allowed p base size) (without_region p base size)
      by true = allowed_less
      by false = regions-less

      go : (answer : Result ⊤ Stage2ConfigError) → (release_range p base size).answer ≡ answer → policy_at (release_call b base size).state ≡ (release_range p base size).policy
      go (Err e) h =
          rw (h, ne_eqb (error_number e) 0 (error_not_zero e)) (sym (release_refused p base size (λ z. error_not_zero e (sym (ap result_number h) ∙ z))))
      go (Ok tt) h = rw (can_release p base size (release_accepted p base size h)) (by (range_held p base size))
