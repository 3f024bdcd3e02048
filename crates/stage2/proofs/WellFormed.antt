-- Every policy built from fresh is well formed, and a well-formed policy's regions are found exactly. Assumes nothing.
use Prim.Native.Nat.{ℕ, ◌+◌, ◌-◌, ◌≤◌, ◌<◌}
use mathlib.Core.Path.{◌≡◌, refl, sym, ◌∙◌, ap}
use mathlib.Core.Bool.{Bool, true, false, cond, true≢false}
use mathlib.Core.List.Memᴰ
use mathlib.Core.List.{List, [], ◌∷◌, ◌++◌, Memᴰ}
use mathlib.Core.Logic.{◌⊎◌, inl, inr}
use native.Mathlib.Omega.{arith}
use native.Mathlib.Numerals.{add-one}
use lib.Dec.{leb}
use lib.ListN.{length, take, set, length-append, length-drop, length-set}
use lib.Seq.{length-take-le, take-suc-set}
use Rattle.lists.specs.Lists.{held, insert_before}
use Rattle.lists.proofs.Laws.{held_within, length_insert, insert_end, inserted_all, insert_ascending}
use Rattle.memory_access.specs.declared.Ipa.{Ipa}
use Rattle.stage2_range.specs.declared.PageRange.{PageRange}
use Rattle.stage2_range.specs.declared.Stage2Range.{Stage2Range}
use Rattle.stage2_range.specs.declared.MemoryAccessRegion.{MemoryAccessRegion}
use Rattle.stage2_range.specs.Ranges.{ValidRange, page_range, has_byte, shares_byte, range_of, range_bytes, result_number}
use Rattle.stage2_range.specs.Registry.{region_of, region_bytes, has_address, find_region, insert_region}
use Rattle.stage2_range.proofs.Ranges.{shares_sym, apart_byte, valid_byte, error_not_zero}
use Rattle.stage2_range.proofs.Registry.{insert_by_base, find_none, find-held}
use Rattle.stage2.specs.declared.Policy.{Policy}
use Rattle.stage2.specs.Policy.{allowed_held, regions_held, fresh_policy, add_allowed, add_region}
use Rattle.stage2.specs.Builds.{BuilderCall, allow, handle, build, build_all, CanAllow, CanHandle, AllApart, Disjoint, WellFormed}
use Rattle.stage2.proofs.Laws.{build-refused, allow_accepted, can_allow, handle_accepted, can_handle}
use Rattle.std.specs.Prelude.{Err, None, Ok, Option, Result, Some, ⊤}
use Rattle.stage2_range.specs.declared.MemoryAccessHandlerMatch.{MemoryAccessHandlerMatch}
use Rattle.stage2_range.specs.declared.Stage2ConfigError.{Stage2ConfigError}

-- Records that share no byte: an insertion keeps them so, and two of them that have a byte in common are one.
module _ {A : Type 0} (bytes_of : A → PageRange) where
  inserted_apart : (before : A → Bool) (y : A) (l : List A) → ((x : A) → Memᴰ x l → shares_byte (bytes_of x) (bytes_of y) ≡ false)
      → AllApart bytes_of l → AllApart bytes_of (insert_before before y l)
  inserted_apart before y [] h a = ((λ x m. absurd (Memᴰ.not-nil m)), tt)
  inserted_apart before y (x ∷ xs) h a = go (before x) (inserted_apart before y xs (λ z m. h z (Memᴰ.tail m)) a.1)
    where
      go : (b : Bool) → AllApart bytes_of (insert_before before y xs)
          → AllApart bytes_of (cond b (y ∷ x ∷ xs) (x ∷ insert_before before y xs))
      go true k = ((λ z m. shares_sym (bytes_of y) (bytes_of z) ∙ h z m), a)
      go false k =
          (inserted_all (λ z. shares_byte (bytes_of x) (bytes_of z) ≡ false) before y xs (h x (Memᴰ.head refl)) a.0, k)

  -- one of them shares none with the others
  pub others_apart : (before : List A) (x : A) (after : List A) → AllApart bytes_of (before ++ (x ∷ after)) → (y : A)
      → Memᴰ y (before ++ after) → shares_byte (bytes_of x) (bytes_of y) ≡ false
  others_apart [] x after a y m = a.0 y m
  others_apart (z ∷ zs) x after a y m = go (Memᴰ.cases_cons m) (others_apart zs x after a.1 y)
    where
      go : (y ≡ z) ⊎ Memᴰ y (zs ++ after) → (Memᴰ y (zs ++ after) → shares_byte (bytes_of x) (bytes_of y) ≡ false)
          → shares_byte (bytes_of x) (bytes_of y) ≡ false
      go (inl e) below = rw e (shares_sym (bytes_of x) (bytes_of z) ∙ a.0 x (Memᴰ.append_right zs (Memᴰ.head refl)))
      go (inr k) below = below k

  abbrev Has : ℕ → A → Type 0
  Has ipa x = has_byte (bytes_of x) ipa ≡ true

  same-with_byte : (ipa : ℕ) (x y : A) → Has ipa x → Has ipa y → (l : List A) → AllApart bytes_of l → Memᴰ x l → Memᴰ y l
      → x ≡ y
  same-with_byte ipa x y h k [] a m n = absurd (Memᴰ.not-nil m)
  same-with_byte ipa x y h k (z ∷ zs) a m n =
      go (Memᴰ.cases_cons m) (Memᴰ.cases_cons n) (same-with_byte ipa x y h k zs a.1)
    where
      go : (x ≡ z) ⊎ Memᴰ x zs → (y ≡ z) ⊎ Memᴰ y zs → (Memᴰ x zs → Memᴰ y zs → x ≡ y) → x ≡ y
      go (inl e) (inl e') below = e ∙ sym e'
      go (inl e) (inr n') below = absurd (apart_byte (bytes_of x) (bytes_of y) (rw e (a.0 y n')) ipa h k)
      go (inr m') (inl e') below = absurd (apart_byte (bytes_of y) (bytes_of x) (rw e' (a.0 x m')) ipa k h)
      go (inr m') (inr n') below = below m' n'

-- Records that are disjoint whole pages: none is, and one more is, where it is valid and shares no byte with them.
module _ {A : Type 0} (size_of : A → ℕ) (bytes_of : A → PageRange) where
  none_disjoint : Disjoint size_of bytes_of []
  none_disjoint = record {
    valid = λ x m. absurd (Memᴰ.not-nil m);
    whole = λ x m. absurd (Memᴰ.not-nil m);
    apart = tt;
  }

  inserted_disjoint : (before : A → Bool) (y : A) (l : List A) → ValidRange (bytes_of y).base_ipa (size_of y)
      → bytes_of y ≡ page_range (bytes_of y).base_ipa (size_of y) → ((x : A) → Memᴰ x l → shares_byte (bytes_of x) (bytes_of y) ≡ false)
      → Disjoint size_of bytes_of l → Disjoint size_of bytes_of (insert_before before y l)
  inserted_disjoint before y l valid whole clear d = record {
    valid = inserted_all _ before y l valid d.valid;
    whole = inserted_all _ before y l whole d.whole;
    apart = inserted_apart bytes_of before y l clear d.apart;
  }

-- a range that is allowed stands after those held
pub allowed_held_lem : (p : Policy) (r : Stage2Range) → length p.allowed ≡ 32 → p.allowed_count < 32
    → allowed_held (add_allowed p r) ≡ insert_before (λ x. false) r (allowed_held p)
unfolding add_allowed
allowed_held_lem p r full room =
    let n : ℕ = p.allowed_count in
    let within : n < length p.allowed = omega arith in
    held_within 32 (n + 1) (set p.allowed n r) (omega arith)
    ∙ rw (add-one n, take-suc-set p.allowed n r within, held_within 32 n p.allowed (omega arith))
    (sym (insert_end r (take n p.allowed)))

-- a region that is handled stands among those held, before the first whose base is not below its own
pub regions_held_lem : (p : Policy) (r : MemoryAccessRegion) → length p.regions ≡ 16 → p.region_count < 16
    → regions_held (add_region p r) ≡ insert_before (λ x. leb r.base_ipa x.base_ipa) r (regions_held p)
unfolding add_region
regions_held_lem p r full room =
    let n : ℕ = p.region_count in
    held_within 16 (n + 1) (insert_region p.regions n r) (omega arith)
    ∙ rw (held_within 16 n p.regions (omega arith)) (insert_by_base p.regions n r (omega arith))

-- an insertion keeps the places
pub inserted_places : (regions : List MemoryAccessRegion) (n : ℕ) (r : MemoryAccessRegion) → n < length regions
    → length (insert_region regions n r) ≡ length regions
unfolding insert_region
inserted_places regions n r h =
    rw (length-append, length_insert, length-take-le n regions (omega arith), length-drop) (omega arith)

-- Each call that is accepted keeps a policy well formed.
allow_keeps : (p : Policy) (base size attributes : ℕ) → WellFormed p → CanAllow p base size
    → WellFormed (add_allowed p (range_of base size attributes))
unfolding add_allowed
allow_keeps p base size attributes w c =
    let r : Stage2Range = range_of base size attributes in
    let e = allowed_held_lem p r w.allowed_places.all c.room in
    let places = length-set p.allowed p.allowed_count r ∙ w.allowed_places.all in
    record {
      allowed_places = record { all = places; within = omega (arith, c.room) };
      region_places = w.region_places;
      allowed_disjoint = rw e
          (inserted_disjoint _ _ (λ x. false) r (allowed_held p) c.fits refl c.apart.from_allowed w.allowed_disjoint);
      regions_disjoint = w.regions_disjoint;
      lists_apart = rw e (inserted_all _ (λ x. false) r (allowed_held p)
          (λ x m. shares_sym (range_bytes r) (region_bytes x) ∙ c.apart.from_regions x m) w.lists_apart);
      ascending = w.ascending;
    }

handle_keeps : (p : Policy) (base size read write : ℕ) → WellFormed p → CanHandle p base size read write
    → WellFormed (add_region p (region_of base size read write))
unfolding add_region
handle_keeps p base size read write w c =
    let r : MemoryAccessRegion = region_of base size read write in
    let before : MemoryAccessRegion → Bool = λ x. leb base x.base_ipa in
    let full = w.region_places.all in
    let e = regions_held_lem p r full c.room in
    let places = inserted_places p.regions p.region_count r (omega (arith, full, c.room)) ∙ full in
    record {
      allowed_places = w.allowed_places;
      region_places = record { all = places; within = omega (arith, c.room) };
      allowed_disjoint = w.allowed_disjoint;
      regions_disjoint = rw e (inserted_disjoint _ _ before r (regions_held p) c.fits refl c.apart.from_regions w.regions_disjoint);
      lists_apart = λ a m. rw e (inserted_all _ before r (regions_held p) (c.apart.from_allowed a m) (w.lists_apart a m));
      ascending = rw e (insert_ascending (λ x. x.base_ipa) r 0 (regions_held p) (omega arith) w.ascending);
    }

-- what holds of every policy built from fresh holds of the fresh one, and each call keeps it
pub fresh_well_formed : WellFormed fresh_policy
unfolding fresh_policy held
fresh_well_formed = record {
  allowed_places = record { all = refl; within = omega arith };
  region_places = record { all = refl; within = omega arith };
  allowed_disjoint = none_disjoint _ _;
  regions_disjoint = none_disjoint _ _;
  lists_apart = λ a m. absurd (Memᴰ.not-nil m);
  ascending = tt;
}

pub build_keeps : (p : Policy) (c : BuilderCall) → WellFormed p → WellFormed (build p c).policy
build_keeps p c w = go c (build p c).answer refl
  where
    go : (d : BuilderCall) (s : Result ⊤ Stage2ConfigError) → (build p d).answer ≡ s → WellFormed (build p d).policy
    go d (Err e) h = rw (build-refused p d (λ z. error_not_zero e (sym (ap result_number h) ∙ z))) w
    go (allow base size attributes) (Ok _) h =
        let k = allow_accepted p base size attributes h in
        rw (can_allow p base size attributes k) (allow_keeps p base size attributes w k)
    go (handle base size read write) (Ok _) h =
        let k = handle_accepted p base size read write h in
        rw (can_handle p base size read write k) (handle_keeps p base size read write w k)

pub build_all_keeps : (p : Policy) (calls : List BuilderCall) → WellFormed p → WellFormed (build_all p calls)
build_all_keeps p [] w = w
build_all_keeps p (c ∷ cs) w = build_all_keeps (build p c).policy cs (build_keeps p c w)

pub built_well_formed : (calls : List BuilderCall) → WellFormed (build_all fresh_policy calls)
built_well_formed calls = build_all_keeps fresh_policy calls fresh_well_formed

-- the regions of a well-formed policy share no byte, so the one that has an address is found
pub find_exact : (p : Policy) → WellFormed p → (r : MemoryAccessRegion) → Memᴰ r (regions_held p) → (ipa : Ipa)
    → has_address ipa.0 r ≡ true → find_region (regions_held p) ipa ≡ Some (record { region = r; offset = ipa.0 - r.base_ipa })
find_exact p w r m ipa h = go (find_region (regions_held p) ipa) refl
  where
    go : (f : Option MemoryAccessHandlerMatch) → find_region (regions_held p) ipa ≡ f
        → find_region (regions_held p) ipa ≡ Some (record { region = r; offset = ipa.0 - r.base_ipa })
    go None e = absurd (true≢false (sym h ∙ find_none (regions_held p) ipa e r m))
    go (Some x) e =
        let f = find-held (regions_held p) ipa x e in
        let apart = w.regions_disjoint.apart in
        let s : x.region ≡ r = same-with_byte region_bytes ipa.0 x.region r f.1 h (regions_held p) apart f.0 m in
        let o : x.offset ≡ ipa.0 - r.base_ipa = f.2 ∙ rw s in
        e ∙ rw (← o, ← s)

-- a region of a well-formed policy has each address from its base on, as many as its size says
pub held_address : (p : Policy) → WellFormed p → (r : MemoryAccessRegion) → Memᴰ r (regions_held p) → (ipa : ℕ) → r.base_ipa ≤ ipa
    → ipa < r.base_ipa + r.size → has_address ipa r ≡ true
held_address p w r m ipa h k =
    let d = w.regions_disjoint in
    rw (d.whole r m) (valid_byte r.base_ipa r.size (d.valid r m) ipa h k)
