-- Laws on ranges. Assumes nothing.
use Prim.Native.Nat.{ℕ, ◌+◌, ◌-◌, ◌%◌, ◌^◌, ◌≤◌, ◌<◌, min, max}
use mathlib.Core.Path.{◌≡◌, refl, sym, ◌∙◌, ap}
use Rattle.std.proofs.Common.{◌≢◌}
use mathlib.Core.Bool.{Bool, true, false, ◌&&◌, cond, true≢false}
use mathlib.Core.List.{List, [], ◌∷◌, ◌++◌, Memᴰ}
use native.Mathlib.Omega.{arith}
use borrow.Author.Tests.{lt-ltb, le-ltb, le-leb, eq-eqb, ne_eqb, ltb-true, ltb-false, leb-true, eqb-true, eqb-false, not-false}
use lib.Dec.{ltb, leb, lit≤}
use lib.ListN.{length, get_or}
use lib.Bits.{bit_and}
use Rattle.bits.specs.Bits.{FitsWord}
use Rattle.bits.proofs.Laws.{low_cleared}
use Rattle.lists.specs.Lists.{held}
use Rattle.lists.specs.Refusals.{Case, first_met}
use Rattle.lists.proofs.Laws.{FirstLeft, first-here, first-later, first_none, any_none, none_any, both_true, cond_map, met, met-map, met-append}
use Rattle.lists.proofs.Every.{Every, all_every}
use Rattle.stage2_range.specs.declared.Stage2ConfigError.{Stage2ConfigError}
use Rattle.stage2_range.specs.declared.Stage2ConfigError.TheVariants.{RangeBaseNotPageAligned, EmptyRange, RangeSizeNotPageMultiple, RangeEndOverflow, TooManyAllowedRanges, AllowedRangeOverlap, AllowedRangeOverlapsMemoryAccessHandler, TooManyMemoryAccessHandlerRegions, MemoryAccessHandlerRangeOverlap, UnknownMemoryHandler, InvalidDevicetree, UnsupportedCellCounts, RangeNotHeld}
use Rattle.stage2_range.specs.declared.PageRange.{PageRange}
use Rattle.stage2_range.specs.Ranges.{after, largest_end, answer_of, range_cases, validate_range, ValidRange, error_number, result_number, page_range, has_byte, shares_byte, overlaps, align_down, align_up, aligned_number}
use Rattle.std.specs.List.{list_any}
use Rattle.std.specs.Prelude.{◌||◌, Err, None, Ok, Result, Some, ⊤, is_err}

-- two tests that imply each other are equal
test_ext : (t u : Bool) → (t ≡ true → u ≡ true) → (u ≡ true → t ≡ true) → t ≡ u
test_ext true u f g = sym (f refl)
test_ext false true f g = g refl
test_ext false false f g = refl

-- A byte of a range lies from its base up to its end.
module _ (r : PageRange) (ipa : ℕ) where
  between : r.base_ipa ≤ ipa → ipa < r.end_ipa → has_byte r ipa ≡ true
  unfolding has_byte
  between h k = rw (le-leb r.base_ipa ipa h, lt-ltb ipa r.end_ipa k)

  pub byte_above : has_byte r ipa ≡ true → r.base_ipa ≤ ipa
  unfolding has_byte
  byte_above t = leb-true r.base_ipa ipa (both_true (leb r.base_ipa ipa) (ltb ipa r.end_ipa) t).0

  byte_below : has_byte r ipa ≡ true → ipa < r.end_ipa
  unfolding has_byte
  byte_below t = ltb-true ipa r.end_ipa (both_true (leb r.base_ipa ipa) (ltb ipa r.end_ipa) t).1

-- Two ranges share a byte where there is a byte that both have.
module _ (r s : PageRange) where
  abbrev first : ℕ
  first = max r.base_ipa s.base_ipa

  abbrev end : ℕ
  end = min r.end_ipa s.end_ipa

  pub common_byte : shares_byte r s ≡ true → (ipa : ℕ) × (has_byte r ipa ≡ true) × (has_byte s ipa ≡ true)
  unfolding shares_byte
  common_byte t =
      let h : first < end = ltb-true first end t in
      (first, between r first (omega arith) (omega arith), between s first (omega arith) (omega arith))

  pub byte_common : (ipa : ℕ) → has_byte r ipa ≡ true → has_byte s ipa ≡ true → shares_byte r s ≡ true
  unfolding shares_byte
  byte_common ipa h k = lt-ltb first end (omega (arith, byte_above r ipa h, byte_below r ipa h, byte_above s ipa k, byte_below s ipa k))

  -- the order of the two does not matter
  pub shares_sym : shares_byte r s ≡ shares_byte s r
  unfolding shares_byte
  shares_sym =
      let first' = max s.base_ipa r.base_ipa in
      let end' = min s.end_ipa r.end_ipa in
      test_ext (ltb first end) (ltb first' end')
      (λ t. lt-ltb first' end' (omega (arith, ltb-true first end t)))
      (λ t. lt-ltb first end (omega (arith, ltb-true first' end' t)))

  -- no byte of one is one of the other where they share none
  pub apart_byte : shares_byte r s ≡ false → (ipa : ℕ) → has_byte r ipa ≡ true → has_byte s ipa ≡ true → ⊥
  apart_byte t ipa h k = true≢false (sym (byte_common ipa h k) ∙ t)

  -- two that have their bases and share no byte have different bases
  pub apart_bases : has_byte r r.base_ipa ≡ true → has_byte s s.base_ipa ≡ true → shares_byte r s ≡ false
      → r.base_ipa ≡ s.base_ipa → ⊥
  apart_bases h k t e = apart_byte t r.base_ipa h (ap (has_byte s) e ∙ k)

  -- none is empty, and each begins before the other ends
  abbrev s_before : Bool
  s_before = ltb s.base_ipa r.end_ipa

  abbrev r_before : Bool
  r_before = ltb r.base_ipa s.end_ipa

  abbrev r_some : Bool
  r_some = ltb r.base_ipa r.end_ipa

  abbrev s_some : Bool
  s_some = ltb s.base_ipa s.end_ipa

  pub shares_all : (((r_some && s_some) && r_before) && s_before) ≡ shares_byte r s
  unfolding shares_byte
  shares_all = test_ext (((r_some && s_some) && r_before) && s_before) (ltb first end) to from
    where
      to : (((r_some && s_some) && r_before) && s_before) ≡ true → ltb first end ≡ true
      to t =
          let a = both_true ((r_some && s_some) && r_before) s_before t in
          let b = both_true (r_some && s_some) r_before a.0 in
          let c = both_true r_some s_some b.0 in
          let h : r.base_ipa < r.end_ipa = ltb-true _ _ c.0 in
          let k : s.base_ipa < s.end_ipa = ltb-true _ _ c.1 in
          let l : r.base_ipa < s.end_ipa = ltb-true _ _ b.1 in
          let m : s.base_ipa < r.end_ipa = ltb-true _ _ a.1 in
          lt-ltb first end (omega arith)

      from : ltb first end ≡ true → (((r_some && s_some) && r_before) && s_before) ≡ true
      from t =
          let h : first < end = ltb-true first end t in
          rw (
            lt-ltb s.base_ipa r.end_ipa (omega arith),
            lt-ltb r.base_ipa s.end_ipa (omega arith),
            lt-ltb r.base_ipa r.end_ipa (omega arith),
            lt-ltb s.base_ipa s.end_ipa (omega arith),
          )

-- What a test of its bytes says, it says of a record.
pub has_told : (ipa : ℕ) {r b : PageRange} {t v : Bool} → t ≡ has_byte r ipa → r ≡ b → t ≡ v → has_byte b ipa ≡ v
has_told ipa e f h = ap (λ (r : PageRange). has_byte r ipa) (sym f) ∙ sym e ∙ h

shares_told : (s : PageRange) {r b : PageRange} {t v : Bool} → t ≡ shares_byte r s → r ≡ b → t ≡ v → shares_byte b s ≡ v
shares_told s e f h = ap (λ (r : PageRange). shares_byte r s) (sym f) ∙ sym e ∙ h

-- the end of a base and a size fits a word where the base does
pub end_fits : (base size : ℕ) → FitsWord base → FitsWord (page_range base size).end_ipa
end_fits base size f = go (ltb largest_end (base + size)) refl
  where
    go : (b : Bool) → ltb largest_end (base + size) ≡ b → FitsWord (cond b base (base + size))
    go true e = f
    go false e = omega (arith, ltb-false largest_end (base + size) e)

-- A valid base and size have as many bytes as the size says, from the base on.
module _ (base size : ℕ) (v : ValidRange base size) where
  pub valid_byte : (ipa : ℕ) → base ≤ ipa → ipa < base + size → has_byte (page_range base size) ipa ≡ true
  valid_byte ipa h k = between (page_range base size) ipa h (rw (le-ltb largest_end (base + size) v.ends) k)

  pub byte_valid : (ipa : ℕ) → has_byte (page_range base size) ipa ≡ true → (base ≤ ipa) × (ipa < base + size)
  byte_valid ipa t = (
    byte_above (page_range base size) ipa t,
    rw (le-ltb largest_end (base + size) v.ends) at (byte_below (page_range base size) ipa t),
  )

  -- they are not empty
  pub base_byte : has_byte (page_range base size) base ≡ true
  base_byte = valid_byte base (omega arith) (omega (arith, v.not_empty))

  -- a range from where they end on shares none of them
  pub touching_apart : (size' : ℕ) → shares_byte (page_range base size) (page_range (base + size) size') ≡ false
  touching_apart size' = go (shares_byte (page_range base size) next) refl
    where
      next : PageRange
      next = page_range (base + size) size'

      go : (b : Bool) → shares_byte (page_range base size) next ≡ b → b ≡ false
      go false t = refl
      go true t =
          let c = common_byte (page_range base size) next t in
          absurd (omega (arith, byte_valid c.0 c.1, byte_above next c.0 c.2))

-- No record overlaps exactly where none shares a byte.
module _ {A : Type 0} (bytes_of : A → PageRange) (records : List A) (bytes : PageRange) where
  pub overlaps_none : overlaps bytes_of records bytes ≡ false → (x : A) → Memᴰ x records → shares_byte (bytes_of x) bytes ≡ false
  unfolding overlaps
  overlaps_none e = any_none (λ x. shares_byte (bytes_of x) bytes) records e

  pub none_overlaps : ((x : A) → Memᴰ x records → shares_byte (bytes_of x) bytes ≡ false) → overlaps bytes_of records bytes ≡ false
  unfolding overlaps
  none_overlaps h = none_any (λ x. shares_byte (bytes_of x) bytes) records h

  -- what a test of a record's bytes says, it says of the record
  pub overlaps_told : {r : PageRange} {t v : Bool} → t ≡ overlaps bytes_of records r → r ≡ bytes → t ≡ v → overlaps bytes_of records bytes ≡ v
  overlaps_told e f h = ap (overlaps bytes_of records) (sym f) ∙ sym e ∙ h

-- as the library's `any` looks for it
pub overlaps_any : {A : Type 0} (bytes_of : A → PageRange) (bytes : PageRange) (records : List A)
    → overlaps bytes_of records bytes ≡ list_any (λ x. shares_byte (bytes_of x) bytes) records
unfolding overlaps
overlaps_any bytes_of bytes [] = refl
overlaps_any bytes_of bytes (x ∷ xs) = go (shares_byte (bytes_of x) bytes) (overlaps_any bytes_of bytes xs)
  where
    go : (b : Bool) → overlaps bytes_of xs bytes ≡ list_any (λ y. shares_byte (bytes_of y) bytes) xs
        → cond b true (overlaps bytes_of xs bytes) ≡ (b || list_any (λ y. shares_byte (bytes_of y) bytes) xs)
    go true e = refl
    go false e = e

-- A loop looks for an overlap among the first `m` records of an array: at place `i` those not yet passed decide.
abbrev pub OverlapLeft : {A : Type 0} → (A → PageRange) → PageRange → List A → ℕ → ℕ → Bool → Type 0
OverlapLeft bytes_of bytes array m i v = FirstLeft (λ x. shares_byte (bytes_of x) bytes) (λ x. true) false array m i v

module _ {A : Type 0} (bytes_of : A → PageRange) (bytes : PageRange) where
  pub overlap_begins : (limit count : ℕ) (array : List A)
      → OverlapLeft bytes_of bytes array (min count limit) 0 (overlaps bytes_of (held limit count array) bytes)
  unfolding overlaps held
  overlap_begins limit count array = record { within = omega arith; left = refl }

  module _ {array : List A} {m i : ℕ} {v : Bool} (inv : OverlapLeft bytes_of bytes array m i v) (below : i < m) (full : m ≤ length array) (d : A)
      {r : PageRange} {t : Bool} (tested : t ≡ shares_byte r bytes) (read : r ≡ bytes_of (get_or array i d)) where
    pub overlap_here : t ≡ true → true ≡ v
    overlap_here h = first-here inv below full d (shares_told bytes tested read h)

    pub overlap_later : t ≡ false → OverlapLeft bytes_of bytes array m (i + 1) v
    overlap_later h = first-later inv below full d (shares_told bytes tested read h)

-- a refusal does not accept
pub not-accepted : (e : Stage2ConfigError) → ◌≡◌ {A = Result ⊤ Stage2ConfigError} (Err e) (Ok tt) → ⊥
not-accepted e h = true≢false (ap is_err h)

-- where neither of two answers is a refusal, each accepts
pub not_after : (first rest : Result ⊤ Stage2ConfigError) → after first rest ≡ Ok tt → (first ≡ Ok tt) × (rest ≡ Ok tt)
not_after (Ok _) rest h = (refl, h)
not_after (Err e) rest h = absurd (not-accepted e h)

-- What a table of refusals answers.
module _ (cases : List (Case Stage2ConfigError)) where
  -- its number: first met wins
  pub answer_number_lem : result_number (answer_of cases) ≡ first_met error_number 0 cases
  answer_number_lem = met-map Err (Ok tt) result_number cases

  -- with more lines at its end, these answer where it accepts
  pub answer_after_lem : (more : List (Case Stage2ConfigError)) → answer_of (cases ++ more) ≡ after (answer_of cases) (answer_of more)
  answer_after_lem more = met-append Err (Ok tt) cases more ∙ sym (met-map Err (Ok tt) (λ s. after s (answer_of more)) cases)

  -- where it accepts, no case is met
  pub accepted_unmet : answer_of cases ≡ Ok tt → Every (λ c. c.met ≡ false) cases
  accepted_unmet h = all_every _ cases (first_none met _ (Ok tt) (λ c t. not-accepted c.refusal) cases h)

-- A range is accepted exactly where it is valid.
pub accepted_valid : (base size : ℕ) → validate_range base size ≡ Ok tt → ValidRange base size
unfolding validate_range
accepted_valid base size h =
    let unmet = accepted_unmet (range_cases base size) h in
    record {
      base_aligned = eqb-true _ _ (not-false _ unmet.0);
      not_empty = eqb-false size 0 unmet.1.0;
      whole_pages = eqb-true _ _ (not-false _ unmet.1.1.0);
      ends = ltb-false _ _ unmet.1.1.1.0;
    }

pub valid_accepted : (base size : ℕ) → ValidRange base size → validate_range base size ≡ Ok tt
unfolding validate_range
valid_accepted base size v =
    rw (
      eq-eqb (base % 4096) 0 v.base_aligned,
      ne_eqb size 0 v.not_empty,
      eq-eqb (size % 4096) 0 v.whole_pages,
      le-ltb largest_end (base + size) v.ends,
    )

-- What each test of a base and a size says, past those before it.
module _ (base size : ℕ) where
  pub base_refused : base % 4096 ≢ 0 → validate_range base size ≡ Err RangeBaseNotPageAligned
  unfolding validate_range
  base_refused b = simp (ne_eqb _ _ b)

  pub empty_refused : base % 4096 ≡ 0 → size ≡ 0 → validate_range base size ≡ Err EmptyRange
  unfolding validate_range
  empty_refused b s = simp (eq-eqb _ _ b, eq-eqb _ _ s)

  pub size_refused : base % 4096 ≡ 0 → size ≢ 0 → size % 4096 ≢ 0 → validate_range base size ≡ Err RangeSizeNotPageMultiple
  unfolding validate_range
  size_refused b s m = simp (eq-eqb _ _ b, ne_eqb _ _ s, ne_eqb _ _ m)

  pub end_refused : base % 4096 ≡ 0 → size ≢ 0 → size % 4096 ≡ 0 → largest_end < base + size
      → validate_range base size ≡ Err RangeEndOverflow
  unfolding validate_range
  end_refused b s m e = simp (eq-eqb _ _ b, ne_eqb _ _ s, eq-eqb _ _ m, lt-ltb _ _ e)

  pub range_accepted : base % 4096 ≡ 0 → size ≢ 0 → size % 4096 ≡ 0 → base + size ≤ largest_end → validate_range base size ≡ Ok tt
  range_accepted b s m e = valid_accepted base size (record { base_aligned = b; not_empty = s; whole_pages = m; ends = e })

-- "1 to 4 in order", first met wins
pub validate_number : (base size : ℕ) → result_number (validate_range base size) ≡ first_met error_number 0 (range_cases base size)
unfolding validate_range
validate_number base size = answer_number_lem (range_cases base size)

-- no refusal has the number 0
pub error_not_zero : (e : Stage2ConfigError) → error_number e ≡ 0 → ⊥
error_not_zero RangeBaseNotPageAligned h = omega arith
error_not_zero EmptyRange h = omega arith
error_not_zero RangeSizeNotPageMultiple h = omega arith
error_not_zero RangeEndOverflow h = omega arith
error_not_zero TooManyAllowedRanges h = omega arith
error_not_zero AllowedRangeOverlap h = omega arith
error_not_zero AllowedRangeOverlapsMemoryAccessHandler h = omega arith
error_not_zero TooManyMemoryAccessHandlerRegions h = omega arith
error_not_zero MemoryAccessHandlerRangeOverlap h = omega arith
error_not_zero UnknownMemoryHandler h = omega arith
error_not_zero InvalidDevicetree h = omega arith
error_not_zero UnsupportedCellCounts h = omega arith
error_not_zero RangeNotHeld h = omega arith

-- so an answer with the number 0 accepts
pub zero_accepted : (s : Result ⊤ Stage2ConfigError) → result_number s ≡ 0 → s ≡ Ok tt
zero_accepted (Ok _) e = refl
zero_accepted (Err error) e = absurd (error_not_zero error e)

-- past the last page boundary there is none, and up to it the sum's low bits are cleared
pub none_above : (address : ℕ) → 2 ^ 64 - 4096 < address → align_up address ≡ None
unfolding align_up
none_above address h = rw (lt-ltb _ _ h)

pub aligned_above : (address : ℕ) → address ≤ 2 ^ 64 - 4096 → align_up address ≡ Some (bit_and (address + 4095) 18446744073709547520)
unfolding align_up align_down
aligned_above address h = simp (le-ltb _ _ h, low_cleared 64 12 (address + 4095) (lit≤ tt) (omega arith))

-- 18 exactly above 2^64 - 4,096
pub aligned_number_lem : (address : ℕ) → aligned_number (align_up address) ≡ cond (ltb (2 ^ 64 - 4096) address) 18 0
unfolding align_up
aligned_number_lem address = cond_map aligned_number (ltb (2 ^ 64 - 4096) address) _ _

-- Rounding gives the nearest page boundary on its side.
pub down_nearest : (address : ℕ) → (align_down address % 4096 ≡ 0) × (align_down address ≤ address) × (address < align_down address + 4096)
unfolding align_down
down_nearest address = (omega arith, omega arith, omega arith)

pub up_nearest : (address : ℕ)
    → (align_down (address + 4095) % 4096 ≡ 0) × (address ≤ align_down (address + 4095)) × (align_down (address + 4095) < address + 4096)
unfolding align_down
up_nearest address = (omega arith, omega arith, omega arith)
