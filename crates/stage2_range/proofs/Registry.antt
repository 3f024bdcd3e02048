-- Laws on the searches of the regions and on the registry. Assumes nothing.
use Prim.Native.Nat.{ℕ, suc, ◌+◌, ◌-◌, ◌≤◌, ◌<◌}
use mathlib.Core.Path.{◌≡◌, refl, sym, ◌∙◌, ap}
use mathlib.Core.Bool.{Bool, true, false, cond}
use mathlib.Core.List.{List, [], ◌∷◌, ◌++◌, Memᴰ}
use native.Mathlib.Omega.{arith}
use native.Mathlib.Numerals.{add-one}
use borrow.Author.Tests.{le-leb, lt-leb}
use lib.Dec.{leb}
use lib.ListN.{length, take, drop, get_or, drop_of_length-le}
use lib.Seq.{length-take-le, take_at, drop_at, drop-cons}
use Rattle.lists.specs.Lists.{held, first_index, insert_before, insert_at, Ascending}
use Rattle.lists.proofs.Laws.{length-held, held_within, index_le, index_fits, first_none, none_first, length_insert, insert_at_lem, insert_place, insert_ascending, first_fit, first_member}
use Rattle.memory_access.specs.declared.Ipa.{Ipa}
use Rattle.stage2_range.specs.declared.PageRange.{PageRange}
use Rattle.stage2_range.specs.declared.MemoryAccessRegion.{MemoryAccessRegion}
use Rattle.stage2_range.specs.declared.MemoryAccessHandlerMatch.{MemoryAccessHandlerMatch}
use Rattle.stage2_range.specs.Registry.{region_bytes, has_address, overlaps_regions, find_region, insert_region, register_region}
use Rattle.stage2_range.specs.Ranges.{shares_byte}
use Rattle.stage2_range.specs.declared.Stage2ConfigError.TheVariants.{TooManyMemoryAccessHandlerRegions, MemoryAccessHandlerRangeOverlap}
use Rattle.stage2_range.proofs.Ranges.{byte_above}
use Rattle.std.proofs.lemmas.Option.{none-some}
use Rattle.lists.proofs.Places.{found_at, found_nowhere}
use Rattle.std.specs.Prelude.{position, unwrap_or, Err, None, Ok, Option, Some}

-- a region shares a byte with others
abbrev sharing : PageRange → MemoryAccessRegion → Bool
sharing bytes r = shares_byte (region_bytes r) bytes

-- a region's base is not below another's
abbrev not_below : MemoryAccessRegion → MemoryAccessRegion → Bool
not_below region r = leb region.base_ipa r.base_ipa

-- the first of two searches that finds a region
abbrev pub or_else : Option MemoryAccessHandlerMatch → Option MemoryAccessHandlerMatch → Option MemoryAccessHandlerMatch
or_else None other = other
or_else (Some m) other = Some m

-- a search is that of the first region, or else that of the others
pub find_first : (r : MemoryAccessRegion) (regions : List MemoryAccessRegion) (ipa : Ipa)
    → find_region (r ∷ regions) ipa ≡ or_else (find_region (r ∷ []) ipa) (find_region regions ipa)
unfolding find_region
find_first r regions ipa = go _ (has_address ipa.0 r)
  where
    go : (m : MemoryAccessHandlerMatch) (b : Bool)
        → cond b (Some m) (find_region regions ipa) ≡ or_else (cond b (Some m) None) (find_region regions ipa)
    go m true = refl
    go m false = refl

-- one region is found where it has the address
find_alone : (r : MemoryAccessRegion) (ipa : Ipa) (b : Bool) → has_address ipa.0 r ≡ b
    → find_region (r ∷ []) ipa ≡ cond b (Some (record { region = r; offset = ipa.0 - r.base_ipa })) None
unfolding find_region
find_alone r ipa b e = rw e

-- so that a search passes over the regions before the first that has the address
find_passed : (regions : List MemoryAccessRegion) (ipa : Ipa)
    → find_region regions ipa ≡ find_region (drop (first_index (has_address ipa.0) regions) regions) ipa
find_passed [] ipa = refl
find_passed (r ∷ regions) ipa = go (has_address ipa.0 r) refl (first_index (has_address ipa.0) regions) (find_passed regions ipa)
  where
    go : (b : Bool) → has_address ipa.0 r ≡ b → (i : ℕ) → find_region regions ipa ≡ find_region (drop i regions) ipa
        → find_region (r ∷ regions) ipa ≡ find_region (drop (cond b 0 (suc i)) (r ∷ regions)) ipa
    go true e i ih = refl
    go false e i ih = find_first r regions ipa ∙ rw (find_alone r ipa false e) ih

-- The search of the regions, by the place of the first that has the address.
module _ (regions : List MemoryAccessRegion) (ipa : Ipa) (i : ℕ) (d : MemoryAccessRegion) (found : position (has_address ipa.0) regions ≡ Some i) where
  pub found_within : i < length regions
  found_within = (found_at (has_address ipa.0) regions i found).0

  found_fits : has_address ipa.0 (get_or regions i d) ≡ true
  found_fits = let f = found_at (has_address ipa.0) regions i found in rw (sym f.1) (index_fits (has_address ipa.0) regions d (omega (arith, f.0, f.1)))

  pub found_base : (get_or regions i d).base_ipa ≤ ipa.0
  found_base = byte_above (region_bytes (get_or regions i d)) ipa.0 found_fits

  pub find_here : find_region regions ipa ≡ Some (record { region = get_or regions i d; offset = ipa.0 - (get_or regions i d).base_ipa })
  find_here =
      let f = found_at (has_address ipa.0) regions i found in
      let r = get_or regions i d in
      find_passed regions ipa
      ∙ rw (f.1, drop-cons regions i d f.0) (find_first r (drop (suc i) regions) ipa ∙ rw (find_alone r ipa true found_fits))

pub find_nothing : (regions : List MemoryAccessRegion) (ipa : Ipa) → position (has_address ipa.0) regions ≡ None → find_region regions ipa ≡ None
unfolding find_region
find_nothing regions ipa none =
    find_passed regions ipa ∙ rw (drop_of_length-le regions (found_nowhere (has_address ipa.0) regions none))

-- a search's place, or the length where there is none
pub place_or_length : (fits : MemoryAccessRegion → Bool) (l : List MemoryAccessRegion) (found : Option ℕ) → found ≡ position fits l
    → unwrap_or found (length l) ≡ first_index fits l
place_or_length fits l None e = omega (arith, found_nowhere fits l (sym e), index_le fits l)
place_or_length fits l (Some i) e = sym (found_at fits l i (sym e)).1

-- a region goes to the place of the first whose base is not below its own
pub insert_region_lem : (regions : List MemoryAccessRegion) (n : ℕ) (region : MemoryAccessRegion) → n ≤ 16 → n ≤ length regions
    → insert_region regions n region ≡ insert_at regions n (first_index (not_below region) (held 16 n regions)) region
unfolding insert_region
insert_region_lem regions n region h k =
    rw (held_within 16 n regions h) (insert_place (not_below region) region regions n k)

-- A search answers none exactly where no region has the address.
differs : (r : MemoryAccessRegion) (offset : ℕ) → ◌≡◌ {A = Option MemoryAccessHandlerMatch} (Some (record { region = r; offset = offset })) None → ⊥
differs r offset e = none-some (record { region = r; offset = offset }) (sym e)

pub find_none : (regions : List MemoryAccessRegion) (ipa : Ipa) → find_region regions ipa ≡ None → (r : MemoryAccessRegion)
    → Memᴰ r regions → has_address ipa.0 r ≡ false
unfolding find_region
find_none regions ipa e = first_none (has_address ipa.0) _ None (λ r t. differs r (ipa.0 - r.base_ipa)) regions e

pub none_find : (regions : List MemoryAccessRegion) (ipa : Ipa)
    → ((r : MemoryAccessRegion) → Memᴰ r regions → has_address ipa.0 r ≡ false) → find_region regions ipa ≡ None
unfolding find_region
none_find regions ipa h = none_first (has_address ipa.0) _ None regions h

-- The insertion: among the first n + 1 places stand the region and, in their order, the first n; the others are as they were.
module _ (regions : List MemoryAccessRegion) (n : ℕ) (region : MemoryAccessRegion) (room : n < length regions) where
  -- what the region is inserted before, and where
  abbrev not_below_region : MemoryAccessRegion → Bool
  not_below_region = not_below region

  abbrev point : ℕ
  point = first_index not_below_region (take n regions)

  inserted_length : length (insert_before not_below_region region (take n regions)) ≡ n + 1
  inserted_length = rw (length_insert, length-take-le n regions (omega arith)) (sym (add-one n))

  pub insert_front : take (n + 1) (insert_region regions n region) ≡ insert_before not_below_region region (take n regions)
  unfolding insert_region
  insert_front = take_at (insert_before not_below_region region (take n regions)) (drop (n + 1) regions) (n + 1) inserted_length

  -- the same, by the bases
  pub insert_by_base : take (n + 1) (insert_region regions n region)
      ≡ insert_before (λ r. leb region.base_ipa r.base_ipa) region (take n regions)
  insert_by_base = insert_front

  pub insert_rest : drop (n + 1) (insert_region regions n region) ≡ drop (n + 1) regions
  unfolding insert_region
  insert_rest = drop_at (insert_before not_below_region region (take n regions)) (drop (n + 1) regions) (n + 1) inserted_length

  pub insert_keeps_order : take (n + 1) (insert_region regions n region) ≡ take point (take n regions) ++ (region ∷ drop point (take n regions))
  insert_keeps_order = insert_front ∙ insert_at_lem not_below_region region (take n regions)

  pub insert_keeps_ascending : Ascending (λ r. r.base_ipa) 0 (take n regions)
      → Ascending (λ r. r.base_ipa) 0 (take (n + 1) (insert_region regions n region))
  insert_keeps_ascending a = rw insert_front (insert_ascending (λ r. r.base_ipa) region 0 (take n regions) (omega arith) a)

-- "8, 9", first met wins; a refusal leaves the registry as it was
module _ (regions : List MemoryAccessRegion) (n : ℕ) (region : MemoryAccessRegion) where
  pub full-refused : 16 ≤ n
      → register_region regions n region
      ≡ record { answer = Err TooManyMemoryAccessHandlerRegions; regions = regions; region_count = n }
  unfolding register_region
  full-refused h = rw (le-leb 16 n h)

  pub overlap_refused : n < 16 → overlaps_regions (held 16 n regions) (region_bytes region) ≡ true
      → register_region regions n region
      ≡ record { answer = Err MemoryAccessHandlerRangeOverlap; regions = regions; region_count = n }
  unfolding register_region
  overlap_refused h o = rw (lt-leb 16 n h, o)

  pub apart_registered : n < 16 → overlaps_regions (held 16 n regions) (region_bytes region) ≡ false
      → register_region regions n region ≡ record { answer = Ok tt; regions = insert_region regions n region; region_count = n + 1 }
  unfolding register_region
  apart_registered h o = rw (lt-leb 16 n h, o)

-- Past the tests: where the region goes among those that are held.
module _ (regions : List MemoryAccessRegion) (n : ℕ) (region : MemoryAccessRegion) {records : List MemoryAccessRegion} {at : ℕ}
    (are_held : records ≡ held 16 n regions)
    (placed : at ≡ first_index (not_below region) records)
    (room : n < 16)
    (full : length regions ≡ 16) where
  pub place_within : at ≤ n
  place_within = omega (arith, placed, index_le (not_below region) records, ap length are_held, length-held 16 n regions (omega arith))

  -- an accepted region stands there
  pub apart_placed : overlaps_regions records (region_bytes region) ≡ false
      → record { answer = Ok tt; regions = insert_at regions n at region; region_count = n + 1 } ≡ register_region regions n region
  apart_placed o =
      let found : at ≡ first_index (not_below region) (held 16 n regions) = placed ∙ ap (first_index (not_below region)) are_held in
      sym (apart_registered regions n region room (ap (λ l. overlaps_regions l (region_bytes region)) (sym are_held) ∙ o)
      ∙ rw (insert_region_lem regions n region (omega arith) (omega arith), ← found))

-- the registry after a refused call, by the test met
pub ruleset register_refusals = (full-refused, overlap_refused)

-- a region that is found is one of those searched, it has the address, and the offset is counted from its base
pub find-held : (regions : List MemoryAccessRegion) (ipa : Ipa) (m : MemoryAccessHandlerMatch) → find_region regions ipa ≡ Some m
    → Memᴰ m.region regions
    × (has_address ipa.0 m.region ≡ true)
    × (m.offset ≡ ipa.0 - m.region.base_ipa)
unfolding find_region
find-held regions ipa m e =
    let w = first_fit (has_address ipa.0) _ None regions (Some m) e (differs m.region m.offset) in
    let s : record { region = w.0; offset = ipa.0 - w.0.base_ipa } ≡ m = cc in
    rw (← s) (
      first_member (has_address ipa.0) regions w.0 w.1,
      w.1.here,
      refl,
    )
