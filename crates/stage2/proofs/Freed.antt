-- In a well-formed policy at most one record has a base and a size; once released it is free: no record held shares a byte with it, nothing
-- is found in it, and its place is used again. Assumes nothing.
use Prim.Native.Nat.{ℕ, ◌+◌, ◌≤◌, ◌<◌}
use mathlib.Core.Path.{◌≡◌, refl, sym, ◌∙◌, ap, subst}
use mathlib.Core.Bool.{Bool, true, false, ◌&&◌}
use mathlib.Core.List.{List, [], ◌∷◌, ◌++◌, Memᴰ}
use native.Mathlib.Omega.{arith}
use borrow.Author.Tests.{eqb-true}
use lib.Dec.{eqb}
use lib.ListN.{length}
use Rattle.lists.proofs.Laws.{FirstFit, first_member, both_true, insert_end, none_any}
use Rattle.lists.proofs.Removal.{any_first, without_first_lem, without_member, length_without}
use Rattle.memory_access.specs.declared.Ipa.{Ipa}
use Rattle.stage2_range.specs.declared.Stage2ConfigError.TheVariants.{RangeNotHeld}
use Rattle.stage2_range.specs.declared.PageRange.{PageRange}
use Rattle.stage2_range.specs.declared.MemoryAccessRegion.{MemoryAccessRegion}
use Rattle.stage2_range.specs.Ranges.{ValidRange, page_range, has_byte, shares_byte, range_of, range_bytes, is_range}
use Rattle.stage2_range.specs.Registry.{region_bytes, is_region, find_region}
use Rattle.stage2_range.proofs.Ranges.{shares_sym, apart_byte, apart_bases, base_byte, valid_byte, valid_accepted}
use Rattle.stage2_range.proofs.Registry.{find-held}
use Rattle.stage2.specs.declared.Policy.{Policy}
use Rattle.stage2.specs.Policy.{allowed_held, regions_held, allow_range, range_held, region_held, without_allowed, without_region, release_range}
use Rattle.stage2.specs.Builds.{Apart, AllApart, Disjoint, WellFormed}
use Rattle.stage2.proofs.Laws.{can_allow}
use Rattle.stage2.proofs.WellFormed.{others_apart, allowed_held_lem}
use Rattle.stage2.proofs.Held.{allowed_length}
use Rattle.stage2.proofs.Release.{release_answer_lem, release_splits, release_accepted, by_list, allowed_without, regions-without, ranges-full, regions-full, without_allowed_keeps, release_keeps}
use Rattle.std.specs.Prelude.{Err, None, Ok, Option, Some}
use Rattle.stage2_range.specs.declared.MemoryAccessHandlerMatch.{MemoryAccessHandlerMatch}

-- Records with a size and bytes, and those among them with the base `b` and the size `s`.
module _ {A : Type 0} (size_of : A → ℕ) (bytes_of : A → PageRange) (b s : ℕ) where
  abbrev matches : A → Bool
  matches x = eqb (bytes_of x).base_ipa b && eqb (size_of x) s

  pub match_base : (x : A) → matches x ≡ true → (bytes_of x).base_ipa ≡ b
  match_base x t = eqb-true _ b (both_true (eqb (bytes_of x).base_ipa b) (eqb (size_of x) s) t).0

  pub match_size : (x : A) → matches x ≡ true → size_of x ≡ s
  match_size x t = eqb-true _ s (both_true (eqb (bytes_of x).base_ipa b) (eqb (size_of x) s) t).1

  -- a record with another base is no match
  pub no_match : (x : A) → ((bytes_of x).base_ipa ≡ b → ⊥) → matches x ≡ false
  no_match x differ = go (matches x) refl
    where
      go : (t : Bool) → matches x ≡ t → t ≡ false
      go true e = absurd (differ (match_base x e))
      go false e = refl

  -- Of records that are disjoint whole pages.
  module _ (l : List A) (d : Disjoint size_of bytes_of l) where
    own_base : (x : A) → Memᴰ x l → has_byte (bytes_of x) (bytes_of x).base_ipa ≡ true
    own_base x m =
        ap (λ (r : PageRange). has_byte r (bytes_of x).base_ipa) (d.whole x m) ∙ base_byte (bytes_of x).base_ipa (size_of x) (d.valid x m)

    -- one that shares no byte with a valid range has another base
    pub apart_no_match : (size : ℕ) → ValidRange b size → (x : A) → Memᴰ x l → shares_byte (bytes_of x) (page_range b size) ≡ false
        → matches x ≡ false
    apart_no_match size v x m h = no_match x (apart_bases (bytes_of x) (page_range b size) (own_base x m) (base_byte b size v) h)

    -- the first match has the bytes of the base and the size, ..
    module _ (x : A) (f : FirstFit matches l x) where
      found-bytes : bytes_of x ≡ page_range b s
      found-bytes =
          d.whole x (first_member matches l x f)
          ∙ (λ i. page_range (match_base x f.here i) (match_size x f.here i))

      -- .. and no other record shares one of them
      pub others_free : (y : A) → Memᴰ y (f.before ++ f.after) → shares_byte (bytes_of y) (page_range b s) ≡ false
      others_free y m =
          shares_sym (bytes_of y) (page_range b s)
          ∙ ap (λ (r : PageRange). shares_byte r (bytes_of y)) (sym found-bytes)
          ∙ others_apart bytes_of f.before x f.after (subst (AllApart bytes_of) f.parts d.apart) y m

      -- nor is one a match, or has its base
      pub alone : (y : A) → Memᴰ y (f.before ++ f.after) → (matches y ≡ false) × ((bytes_of y).base_ipa ≡ (bytes_of x).base_ipa → ⊥)
      alone y m =
          let was : Memᴰ y l = without_member matches l y (subst (Memᴰ y) (sym (without_first_lem matches l x f)) m) in
          let valid : ValidRange b s = subst (λ n. ValidRange n s) (match_base x f.here) (subst (ValidRange _) (match_size x f.here) (d.valid x (first_member matches l x f))) in
          let differ = apart_bases (bytes_of y) (page_range b s) (own_base y was) (base_byte b s valid) (others_free y m) in
          (no_match y differ, λ e. differ (e ∙ match_base x f.here))

      -- bytes that share none with the match share none with the base and the size
      pub match_apart : (bytes : PageRange) → shares_byte bytes (bytes_of x) ≡ false → shares_byte bytes (page_range b s) ≡ false
      match_apart bytes h = ap (shares_byte bytes) (sym found-bytes) ∙ h

-- In a well-formed policy a released range is apart from all that is then held.
module _ (p : Policy) (base size : ℕ) (w : WellFormed p) where
  allowed_freed : range_held p base size ≡ true → Apart (without_allowed p base size) (page_range base size)
  unfolding without_allowed
  allowed_freed h =
      let fits = is_range base size in
      let (r, f) = any_first fits (allowed_held p) h in
      let d = w.allowed_disjoint in
      let left = allowed_without p base size (ranges-full p w) (regions-full p w) ∙ without_first_lem fits (allowed_held p) r f in
      record {
        from_allowed = rw left (others_free _ range_bytes base size (allowed_held p) d r f);
        from_regions = λ y m.
            match_apart _ range_bytes base size (allowed_held p) d r f (region_bytes y)
            (shares_sym (region_bytes y) (range_bytes r) ∙ w.lists_apart r (first_member fits (allowed_held p) r f) y m);
      }

  region_freed : region_held p base size ≡ true → Apart (without_region p base size) (page_range base size)
  unfolding without_region
  region_freed h =
      let fits = is_region base size in
      let (r, f) = any_first fits (regions_held p) h in
      let d = w.regions_disjoint in
      let left = regions-without p base size (ranges-full p w) (regions-full p w) ∙ without_first_lem fits (regions_held p) r f in
      record {
        from_allowed = λ y m.
            match_apart _ region_bytes base size (regions_held p) d r f (range_bytes y)
            (w.lists_apart y m r (first_member fits (regions_held p) r f));
        from_regions = rw left (others_free _ region_bytes base size (regions_held p) d r f);
      }

  pub release_frees : (release_range p base size).answer ≡ Ok tt → Apart (release_range p base size).policy (page_range base size)
  release_frees h =
      by_list p base size (λ q. Apart q (page_range base size)) (release_accepted p base size h) allowed_freed (λ n. region_freed)

  -- `find` then has no address of the released range
  pub released_not-found : (release_range p base size).answer ≡ Ok tt → (ipa : Ipa) → base ≤ ipa.0 → ipa.0 < base + size
      → find_region (regions_held (release_range p base size).policy) ipa ≡ None
  released_not-found h ipa low high = go (find_region regions ipa) refl
    where
      regions : List MemoryAccessRegion
      regions = regions_held (release_range p base size).policy

      go : (x : Option MemoryAccessHandlerMatch) → find_region regions ipa ≡ x → x ≡ None
      go None e = refl
      go (Some m) e =
          let k = find-held regions ipa m e in
          let v = (release_accepted p base size h).fits in
          absurd (apart_byte (region_bytes m.region) (page_range base size) ((release_frees h).from_regions m.region k.0) ipa.0 k.1
          (valid_byte base size v ipa.0 low high))

  -- "the freed place is used again": with 32 held too, a range that fits the policy then is accepted, and stands last
  pub freed_place : range_held p base size ≡ true → (b s a : ℕ) → ValidRange b s → Apart (without_allowed p base size) (page_range b s)
      → let q = without_allowed p base size in
      ((allow_range q b s a).answer ≡ Ok tt) × (allowed_held (allow_range q b s a).policy ≡ allowed_held q ++ (range_of b s a ∷ []))
  unfolding without_allowed
  freed_place h b s a valid apart =
      let q = without_allowed p base size in
      let places = (without_allowed_keeps p base size w).allowed_places.all in
      let one : q.allowed_count + 1 ≡ length (allowed_held p) = rw h at (length_without (is_range base size) (allowed_held p)) in
      let room : q.allowed_count < 32 = omega (arith, one, allowed_length p w, w.allowed_places.within) in
      let k = can_allow q b s a (record { fits = valid; room = room; apart = apart }) in
      rw k (refl, allowed_held_lem q (range_of b s a) places room ∙ insert_end (range_of b s a) (allowed_held q))

  -- at most one record has a base and a size: released again, 23
  pub release_twice : (release_range p base size).answer ≡ Ok tt
      → (release_range (release_range p base size).policy base size).answer ≡ Err RangeNotHeld
  release_twice h =
      let q = (release_range p base size).policy in
      let w' = release_keeps p base size w in
      let v = (release_accepted p base size h).fits in
      let apart = release_frees h in
      let no_range =
      none_any (is_range base size) (allowed_held q)
      (λ r m. apart_no_match _ range_bytes base size (allowed_held q) w'.allowed_disjoint size v r m (apart.from_allowed r m)) in
      let no-region =
      none_any (is_region base size) (regions_held q)
      (λ r m. apart_no_match _ region_bytes base size (regions_held q) w'.regions_disjoint size v r m (apart.from_regions r m)) in
      release_answer_lem q base size ∙ release_splits q base size ∙ rw (valid_accepted base size v, no_range, no-region)
