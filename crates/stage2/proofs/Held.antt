-- What an accepted builder call makes of the two lists held, and that a call's answer depends on what is held alone: by `allow_accepted` and
-- `handle_accepted` an accepted call is its insertion, and each answer is rewritten by the equal lists and counts. Assumes nothing.
use Prim.Native.Nat.{ℕ}
use mathlib.Core.Path.{◌≡◌, refl, sym, ◌∙◌, ap}
use mathlib.Core.Bool.{false}
use native.Mathlib.Omega.{arith}
use lib.Dec.{leb}
use lib.ListN.{length}
use Rattle.lists.specs.Lists.{insert_before}
use Rattle.lists.proofs.Laws.{length-held}
use Rattle.stage2_range.specs.Ranges.{range_of, result_number}
use Rattle.stage2_range.specs.Registry.{region_of}
use Rattle.stage2_range.proofs.Ranges.{error_not_zero}
use Rattle.stage2.specs.declared.Policy.{Policy}
use Rattle.stage2.specs.Policy.{allowed_held, regions_held, allow_answer, add_allowed, handle_answer, add_region}
use Rattle.stage2.specs.Builds.{BuilderCall, allow, handle, build, SameHeld, WellFormed}
use Rattle.stage2.proofs.Laws.{build-refused, allow_answer_lem, handle_answer_lem, allow_accepted, can_allow, handle_accepted, can_handle}
use Rattle.stage2.proofs.WellFormed.{allowed_held_lem, regions_held_lem, build_keeps}
use Rattle.std.specs.Prelude.{Err, Ok, Result, ⊤}
use Rattle.stage2_range.specs.declared.Stage2ConfigError.{Stage2ConfigError}

-- What a well-formed policy holds, and what it holds after an accepted call.
module _ (p : Policy) (w : WellFormed p) where
  -- as many allowed ranges are held as their count says
  pub allowed_length : length (allowed_held p) ≡ p.allowed_count
  allowed_length =
      let e = length-held 32 p.allowed_count p.allowed (omega (arith, w.allowed_places.all)) in
      omega (arith, e, w.allowed_places.within)

  -- as many regions are held as their count says
  pub regions-length : length (regions_held p) ≡ p.region_count
  regions-length =
      let e = length-held 16 p.region_count p.regions (omega (arith, w.region_places.all)) in
      omega (arith, e, w.region_places.within)

  -- an accepted allow call puts its range last, and leaves the regions
  pub allow_holds : (base size attributes : ℕ) → (build p (allow base size attributes)).answer ≡ Ok tt
      → let q = (build p (allow base size attributes)).policy in
      (allowed_held q ≡ insert_before (λ x. false) (range_of base size attributes) (allowed_held p)) × (regions_held q ≡ regions_held p)
  unfolding add_allowed
  allow_holds base size attributes h =
      let k = allow_accepted p base size attributes h in
      rw (can_allow p base size attributes k)
      (allowed_held_lem p (range_of base size attributes) w.allowed_places.all k.room, refl)

  -- an accepted handle call puts its region at its place by base, and leaves the allowed ranges
  pub handle_holds : (base size read write : ℕ) → (build p (handle base size read write)).answer ≡ Ok tt
      → let q = (build p (handle base size read write)).policy in
      (allowed_held q ≡ allowed_held p)
      × (regions_held q ≡ insert_before (λ x. leb base x.base_ipa) (region_of base size read write) (regions_held p))
  unfolding add_region
  handle_holds base size read write h =
      let k = handle_accepted p base size read write h in
      rw (can_handle p base size read write k)
      (refl, regions_held_lem p (region_of base size read write) w.region_places.all k.room)

-- well-formed policies whose lists held are equal have equal counts
pub same-held : (p q : Policy) → WellFormed p → WellFormed q → allowed_held p ≡ allowed_held q → regions_held p ≡ regions_held q → SameHeld p q
same-held p q w w' e f = record {
  allowed_counts = sym (allowed_length p w) ∙ ap length e ∙ allowed_length q w';
  region_counts = sym (regions-length p w) ∙ ap length f ∙ regions-length q w';
  allowed = e;
  regions = f;
}

-- Policies that hold the same.
module _ (p q : Policy) (same : SameHeld p q) where
  -- each call has the same answer from both: it depends on counts and lists held alone
  pub build_answer_same : (c : BuilderCall) → (build p c).answer ≡ (build q c).answer
  unfolding allow_answer handle_answer
  build_answer_same (allow base size attributes) =
      rw (allow_answer_lem p base size attributes, allow_answer_lem q base size attributes, same.allowed, same.regions, same.allowed_counts)
  build_answer_same (handle base size read write) =
      rw (handle_answer_lem p base size read write, handle_answer_lem q base size read write, same.allowed, same.regions, same.region_counts)

  -- after it they hold the same again
  pub build-same-held : (c : BuilderCall) → WellFormed p → WellFormed q → SameHeld (build p c).policy (build q c).policy
  build-same-held c w w' = go c (build p c).answer refl
    where
      go : (d : BuilderCall) (s : Result ⊤ Stage2ConfigError) → (build p d).answer ≡ s → SameHeld (build p d).policy (build q d).policy
      go d (Err e) h =
          let n : result_number (build p d).answer ≡ 0 → ⊥ = λ z. error_not_zero e (sym (ap result_number h) ∙ z) in
          rw (build-refused p d n, build-refused q d (λ z. n (ap result_number (build_answer_same d) ∙ z))) same
      go (allow base size attributes) (Ok _) h =
          let d = allow base size attributes in
          let g = allow_holds p w base size attributes h in
          let k = allow_holds q w' base size attributes (sym (build_answer_same d) ∙ h) in
          same-held _ _ (build_keeps p d w) (build_keeps q d w')
          (g.0 ∙ ap (insert_before (λ x. false) (range_of base size attributes)) same.allowed ∙ sym k.0) (g.1 ∙ same.regions ∙ sym k.1)
      go (handle base size read write) (Ok _) h =
          let d = handle base size read write in
          let g = handle_holds p w base size read write h in
          let k = handle_holds q w' base size read write (sym (build_answer_same d) ∙ h) in
          same-held _ _ (build_keeps p d w) (build_keeps q d w')
          (g.0 ∙ same.allowed ∙ sym k.0) (g.1 ∙ ap (insert_before (λ x. leb base x.base_ipa) (region_of base size read write)) same.regions ∙ sym k.1)
