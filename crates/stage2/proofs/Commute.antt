-- Two releases of different ranges may change places, in any state: each answers the same, and the same is held after both. Assumes nothing.
use Prim.Native.Nat.{ℕ, ◌≤◌}
use mathlib.Core.Path.{◌≡◌, refl, sym, ◌∙◌, ap}
use mathlib.Core.Bool.{Bool, true, false, ◌&&◌, ◌||◌, not, cond}
use mathlib.Core.List.{List, [], ◌∷◌}
use lib.Dec.{eqb}
use lib.ListN.{length}
use borrow.Author.Tests.{eqb-true}
use Rattle.lists.specs.Lists.{any_of, without_first}
use Rattle.lists.specs.Refusals.{case}
use Rattle.lists.proofs.Laws.{both_true}
use Rattle.lists.proofs.Removal.{without_comm, any_without}
use Rattle.stage2_range.specs.declared.Stage2ConfigError.TheVariants.{RangeNotHeld}
use Rattle.stage2_range.specs.declared.Stage2Range.{Stage2Range}
use Rattle.stage2_range.specs.declared.MemoryAccessRegion.{MemoryAccessRegion}
use Rattle.stage2_range.specs.Ranges.{after, answer_of, validate_range, is_range}
use Rattle.stage2_range.specs.Registry.{is_region}
use Rattle.stage2.specs.declared.Policy.{Policy}
use Rattle.stage2.specs.Policy.{allowed_held, regions_held, release_range}
use Rattle.stage2.proofs.Release.{release_answer_lem, release_splits, where_valid, allowed_after, regions_after, release_holds, release_places}
use Rattle.std.specs.Prelude.{Err, Ok, Result, ⊤}
use Rattle.stage2_range.specs.declared.Stage2ConfigError.{Stage2ConfigError}

-- a record has one base and one size
one_match : (base size b s b' s' : ℕ) → (b ≡ b' → s ≡ s' → ⊥) → (eqb base b && eqb size s) ≡ true → (eqb base b' && eqb size s') ≡ true → ⊥
one_match base size b s b' s' differ e k =
    let t = both_true (eqb base b) (eqb size s) e in
    let u = both_true (eqb base b') (eqb size s') k in
    differ (sym (eqb-true base b t.0) ∙ eqb-true base b' u.0) (sym (eqb-true size s t.1) ∙ eqb-true size s' u.1)

-- In any state: each of two releases answers the same before and after the other, and the same is held after both, whichever is first.
pub record Commute (p : Policy) (b s b' s' : ℕ) : Type 0 where
  pub first_answer : (release_range (release_range p b' s').policy b s).answer ≡ (release_range p b s).answer
  pub second_answer : (release_range (release_range p b s).policy b' s').answer ≡ (release_range p b' s').answer
  pub same_allowed : allowed_held (release_range (release_range p b s).policy b' s').policy ≡ allowed_held (release_range (release_range p b' s').policy b s).policy
  pub same_regions : regions_held (release_range (release_range p b s).policy b' s').policy ≡ regions_held (release_range (release_range p b' s').policy b s).policy

-- A release of the range `b`, `s` after that of another range, in a policy with its places.
module _ (p : Policy) (full : 32 ≤ length p.allowed) (full' : 16 ≤ length p.regions) (b s b' s' : ℕ) (differ : b ≡ b' → s ≡ s' → ⊥) where
  ranges_differ : (x : Stage2Range) → is_range b s x ≡ true → is_range b' s' x ≡ true → ⊥
  ranges_differ x = one_match x.base_ipa x.size b s b' s' differ

  regions_differ : (x : MemoryAccessRegion) → is_region b s x ≡ true → is_region b' s' x ≡ true → ⊥
  regions_differ x = one_match x.base_ipa x.size b s b' s' differ

  -- such a range is held where it was, and such a region
  range_still : any_of (is_range b s) (allowed_held (release_range p b' s').policy) ≡ any_of (is_range b s) (allowed_held p)
  range_still = ap (any_of (is_range b s)) (release_holds p b' s' full full').0 ∙ go (validate_range b' s')
    where
      go : (v : Result ⊤ Stage2ConfigError) → any_of (is_range b s) (where_valid v (without_first (is_range b' s') (allowed_held p)) (allowed_held p)) ≡ any_of (is_range b s) (allowed_held p)
      go (Ok _) = any_without (is_range b s) (is_range b' s') ranges_differ (allowed_held p)
      go (Err e) = refl

  region_still : any_of (is_region b s) (regions_held (release_range p b' s').policy) ≡ any_of (is_region b s) (regions_held p)
  region_still = ap (any_of (is_region b s)) (release_holds p b' s' full full').1 ∙ go (validate_range b' s') (any_of (is_range b' s') (allowed_held p))
    where
      go : (v : Result ⊤ Stage2ConfigError) (a : Bool)
          → any_of (is_region b s) (where_valid v (cond a (regions_held p) (without_first (is_region b' s') (regions_held p))) (regions_held p)) ≡ any_of (is_region b s) (regions_held p)
      go (Ok _) true = refl
      go (Ok _) false = any_without (is_region b s) (is_region b' s') regions_differ (regions_held p)
      go (Err e) a = refl

  -- so it answers the same
  answer_still : (release_range (release_range p b' s').policy b s).answer ≡ (release_range p b s).answer
  answer_still =
      release_answer_lem (release_range p b' s').policy b s
      ∙ release_splits (release_range p b' s').policy b s
      ∙ (λ i. after (validate_range b s) (answer_of (case RangeNotHeld (not (range_still i || region_still i)) ∷ [])))
      ∙ sym (release_answer_lem p b s ∙ release_splits p b s)

  -- the lists held after both, by those held before
  allowed_twice : allowed_held (release_range (release_range p b' s').policy b s).policy ≡ allowed_after b s (allowed_after b' s' (allowed_held p))
  allowed_twice =
      let q = release_places p b' s' full full' in
      (release_holds (release_range p b' s').policy b s q.0 q.1).0 ∙ ap (allowed_after b s) (release_holds p b' s' full full').0

  regions-twice : regions_held (release_range (release_range p b' s').policy b s).policy
      ≡ regions_after b s (allowed_held p) (regions_after b' s' (allowed_held p) (regions_held p))
  regions-twice =
      let q = release_places p b' s' full full' in
      let regions = (release_holds p b' s' full full').1 in
      (release_holds (release_range p b' s').policy b s q.0 q.1).1
      ∙ (λ i. where_valid (validate_range b s) (cond (range_still i) (regions i) (without_first (is_region b s) (regions i))) (regions i))

  -- either way round
  allowed_comm : (v v' : Result ⊤ Stage2ConfigError) (l : List Stage2Range) →
      let one : List Stage2Range → List Stage2Range = λ m. where_valid v (without_first (is_range b s) m) m in
      let two : List Stage2Range → List Stage2Range = λ m. where_valid v' (without_first (is_range b' s') m) m in
      one (two l) ≡ two (one l)
  allowed_comm (Ok _) (Ok _) l = without_comm (is_range b s) (is_range b' s') ranges_differ l
  allowed_comm (Ok _) (Err e) l = refl
  allowed_comm (Err e) v' l = refl

  regions_comm : (v v' : Result ⊤ Stage2ConfigError) (a a' : Bool) (l : List MemoryAccessRegion) →
      let one : List MemoryAccessRegion → List MemoryAccessRegion = λ m. where_valid v (cond a m (without_first (is_region b s) m)) m in
      let two : List MemoryAccessRegion → List MemoryAccessRegion = λ m. where_valid v' (cond a' m (without_first (is_region b' s') m)) m in
      one (two l) ≡ two (one l)
  regions_comm (Ok _) (Ok _) false false l = without_comm (is_region b s) (is_region b' s') regions_differ l
  regions_comm (Ok _) (Ok _) true a' l = refl
  regions_comm (Ok _) (Ok _) false true l = refl
  regions_comm (Ok _) (Err e) a a' l = refl
  regions_comm (Err e) v' a a' l = refl

pub releases_commute : (p : Policy) (b s b' s' : ℕ) → 32 ≤ length p.allowed → 16 ≤ length p.regions → (b ≡ b' → s ≡ s' → ⊥)
    → Commute p b s b' s'
releases_commute p b s b' s' full full' differ =
    let differ' : b' ≡ b → s' ≡ s → ⊥ = λ e k. differ (sym e) (sym k) in
    let v = validate_range b s in
    let v' = validate_range b' s' in
    let a = any_of (is_range b s) (allowed_held p) in
    let a' = any_of (is_range b' s') (allowed_held p) in
    record {
      first_answer = answer_still p full full' b s b' s' differ;
      second_answer = answer_still p full full' b' s' b s differ';
      same_allowed =
          allowed_twice p full full' b' s' b s differ'
          ∙ sym (allowed_comm p full full' b s b' s' differ v v' (allowed_held p))
          ∙ sym (allowed_twice p full full' b s b' s' differ);
      same_regions =
          regions-twice p full full' b' s' b s differ'
          ∙ sym (regions_comm p full full' b s b' s' differ v v' a a' (regions_held p))
          ∙ sym (regions-twice p full full' b s b' s' differ);
    }
