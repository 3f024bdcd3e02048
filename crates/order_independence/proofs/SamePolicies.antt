-- A release answers the same from two policies that are the same, and leaves them the same: its match is the only record with its base, so it
-- goes from the sorted ranges as it does from the ranges in place. Assumes nothing.
use Prim.Native.Nat.{ℕ}
use mathlib.Core.Path.{◌≡◌, refl, sym, ◌∙◌, ap}
use mathlib.Core.Bool.{◌||◌, not, cond}
use mathlib.Core.List.{[], ◌∷◌}
use Rattle.lists.specs.Lists.{any_of, without_first}
use Rattle.lists.specs.Sorting.{sort_by}
use Rattle.lists.specs.Refusals.{case}
use Rattle.lists.proofs.Sorting.{any_perm, sort_perm}
use Rattle.lists.proofs.Removal.{sorted_without}
use Rattle.stage2_range.specs.declared.Stage2ConfigError.TheVariants.{RangeNotHeld}
use Rattle.stage2_range.specs.Ranges.{after, answer_of, validate_range, range_bytes, is_range}
use Rattle.stage2_range.specs.Registry.{is_region}
use Rattle.stage2.specs.declared.Policy.{Policy}
use Rattle.stage2.specs.Policy.{allowed_held, range_held, release_range}
use Rattle.stage2.specs.Builds.{WellFormed}
use Rattle.stage2.proofs.Release.{release_answer_lem, release_splits, where_valid, allowed_after, release_holds, ranges-full, regions-full}
use Rattle.stage2.proofs.Freed.{alone}
use Rattle.order_independence.specs.Builds.{SamePolicy}
use Rattle.order_independence.proofs.Builds.{range_base}
use Rattle.std.specs.Prelude.{Err, Ok, Result, ⊤}
use Rattle.stage2_range.specs.declared.Stage2ConfigError.{Stage2ConfigError}

-- the ranges held after a release, sorted, are those held before, sorted, without the match
sorted_after : (p : Policy) (base size : ℕ) → WellFormed p
    → sort_by range_base (allowed_after base size (allowed_held p)) ≡ allowed_after base size (sort_by range_base (allowed_held p))
sorted_after p base size w = go (validate_range base size)
  where
    go : (v : Result ⊤ Stage2ConfigError) → sort_by range_base (where_valid v (without_first (is_range base size) (allowed_held p)) (allowed_held p))
        ≡ where_valid v (without_first (is_range base size) (sort_by range_base (allowed_held p))) (sort_by range_base (allowed_held p))
    go (Ok tt) = sorted_without range_base (is_range base size) (allowed_held p) (alone _ range_bytes base size (allowed_held p) w.allowed_disjoint)
    go (Err e) = refl

module _ (p q : Policy) (w : WellFormed p) (w' : WellFormed q) (same : SamePolicy p q) (base size : ℕ) where
  -- both hold such a range, or neither
  range_held-same : range_held p base size ≡ range_held q base size
  range_held-same =
      any_perm (is_range base size) (sort_perm range_base (allowed_held p))
      ∙ ap (any_of (is_range base size)) same.allowed
      ∙ sym (any_perm (is_range base size) (sort_perm range_base (allowed_held q)))

  pub release_answer-same : (release_range p base size).answer ≡ (release_range q base size).answer
  release_answer-same =
      release_answer_lem p base size
      ∙ release_splits p base size
      ∙ (λ i. after (validate_range base size) (answer_of (case RangeNotHeld (not (range_held-same i || any_of (is_region base size) (same.regions i))) ∷ [])))
      ∙ sym (release_answer_lem q base size ∙ release_splits q base size)

  pub release_policy_same : SamePolicy (release_range p base size).policy (release_range q base size).policy
  release_policy_same =
      let h = release_holds p base size (ranges-full p w) (regions-full p w) in
      let k = release_holds q base size (ranges-full q w') (regions-full q w') in
      let regions = same.regions in
      record {
        regions =
            h.1
            ∙ (λ i. where_valid (validate_range base size) (cond (range_held-same i) (regions i) (without_first (is_region base size) (regions i))) (regions i))
            ∙ sym k.1;
        allowed =
            ap (sort_by range_base) h.0
            ∙ sorted_after p base size w
            ∙ ap (allowed_after base size) same.allowed
            ∙ sym (ap (sort_by range_base) k.0 ∙ sorted_after q base size w');
      }
