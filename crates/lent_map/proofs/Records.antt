-- Laws of the places of the suspend map in lent bytes: what was stored is read back, and what stands beside it is as it was. Assumes nothing.
use Prim.Native.Nat.{ℕ, ◌*◌, ◌<◌, ◌≤◌}
use mathlib.Core.Path.{◌≡◌, refl, ◌∙◌}
use mathlib.Core.Bool.{cond}
use mathlib.Core.List.{List, [], ◌∷◌}
use native.Mathlib.Omega.{arith}
use native.Mathlib.Nat.{add-zero}
use lib.Dec.{eqb}
use borrow.Author.Tests.{ne_eqb}
use lib.ListN.{length, get_or}
use Rattle.lent_words.specs.Words.{word_at, with_words, kept_code, FitsWord, Lent}
use Rattle.lent_words.proofs.RoundTrip.{Every, word_back, word_fits, code_fits, meaning_back}
use Rattle.lent_words.proofs.Records.{InWords, record_written, record_kept}
use Rattle.simple_map.specs.Map.{free_place, taken}
use Rattle.lent_map.specs.Layout.{place_at, place_words, with_place, place_length, map_size}
use Rattle.std.specs.Prelude.{None, Option, Some}
use Rattle.simple_map.specs.declared.Item.{Item}

-- the place of the map that words make
abbrev pub place_from : List ℕ → Option Item
place_from ws =
    cond (eqb (get_or ws 0 0) 1) (taken (get_or ws 1 0) (record { entry_point = get_or ws 2 0; context_id = get_or ws 3 0 })) free_place

-- a place of the map stands in four words
pub place_in : (k : ℕ) → InWords (λ c. place_at c k) place_from (place_length * k) place_length
unfolding place_at
place_in k = record { reads = λ c. rw (add-zero (place_length * k)) }

-- a place is stored as at most four words
length-place : (old : ℕ) (item : Option Item) → length (place_words old item) ≤ 4
length-place old None = omega arith
length-place old (Some i) = omega arith

-- the numbers of an item, where there is one, fit words
abbrev pub ItemFits : Option Item → Type 0
ItemFits None = Unit {0}
ItemFits (Some i) = Every FitsWord (i.key ∷ i.value.entry_point ∷ i.value.context_id ∷ [])

-- A place that is stored, the `k`th.
module _ (b : List ℕ) (k : ℕ) where
  -- the place of the map is read back
  pub place_back : (p : Option Item) → Lent map_size b → k < 8 → ItemFits p → place_at (with_place b k p) k ≡ p
  unfolding with_place
  place_back p lent h fits = go p fits
    where
      old : ℕ
      old = word_at b (place_length * k)

      flag : (code : ℕ) → code < 2 → eqb (kept_code 2 old code) 1 ≡ eqb code 1
      flag = meaning_back (λ w. eqb w 1) 2 (λ w l. ne_eqb w 1 (omega arith)) old

      flag-fits : (code : ℕ) → code < 2 → FitsWord (kept_code 2 old code)
      flag-fits code l = code_fits 2 old code (word_fits b (place_length * k) lent.bytes) (omega arith)

      go : (item : Option Item) → ItemFits item → place_at (with_words b (place_length * k) (place_words old item)) k ≡ (item)
      go None f =
          (place_in k).reads (with_words b (place_length * k) (place_words old None))
          ∙ rw (word_back b (place_length * k) (place_words old None) (omega arith) (flag-fits 0 (omega arith), tt) 0 (omega arith), flag 0 (omega arith))
      go (Some i) f =
          record_written (place_in k) b (place_words old (Some i)) refl (omega arith) (flag-fits 1 (omega arith), f) ∙ rw (flag 1 (omega arith))

  -- the other places of the map are as they were
  pub place_beside : (p : Option Item) (k' : ℕ) → (k ≡ k' → ⊥) → place_at (with_place b k p) k' ≡ place_at b k'
  unfolding with_place
  place_beside p k' h =
      record_kept (place_in k') b (place_length * k) (place_words (word_at b (place_length * k)) p) (omega (arith, length-place (word_at b (place_length * k)) p))
