-- Laws of the whole suspend map in lent bytes: zero bytes are the empty one, and what was stored is read back. Assumes nothing.
use Rattle.std.specs.Prelude.{Option}
use Prim.Native.Nat.{ℕ, ◌*◌}
use mathlib.Core.Path.{◌≡◌}
use mathlib.Core.List.{List}
use lib.ListN.{length, replicate}
use Rattle.lent_words.specs.Words.{word_at, each, Lent}
use Rattle.lent_words.proofs.RoundTrip.{Every, store_stays, array_back, lent_words}
use Rattle.lent_words.proofs.Records.{each_constant, zero_record}
use Rattle.simple_map.specs.declared.Item.{Item}
use Rattle.simple_map.specs.Map.{empty_map}
use Rattle.lent_map.specs.Layout.{place_at, place_words, with_place, map_at, with_places, place_length, map_size}
use Rattle.lent_map.proofs.Records.{ItemFits, place_from, place_in, place_back, place_beside}

-- zero bytes are the empty map
pub fresh_map : map_at (replicate map_size 0) ≡ empty_map
unfolding map_at empty_map
fresh_map = rw (each_constant (place_at (replicate map_size 0)) (place_from (replicate place_length 0)) (λ k. zero_record (place_in k) map_size) 0 8)

-- the places of the map that were stored are read back
pub places_back : (b : List ℕ) (items : List (Option Item)) → Lent map_size b → length items ≡ 8 → Every (λ p. ItemFits p) items
    → map_at (with_places b items) ≡ record { items = items }
unfolding map_at with_places with_place
places_back b items lent all fits = λ i. record { items = places i }
  where
    places : each (place_at (with_places b items)) 0 8 ≡ items
    places =
        array_back place_at with_place (Lent map_size) (λ p. ItemFits p) 8
        (λ c k p h. lent_words c (place_length * k) (place_words (word_at c (place_length * k)) p) h) place_back place_beside items b lent all fits

-- the bytes with other places are lent bytes
pub places_lent : (b : List ℕ) (items : List (Option Item)) → Lent map_size b → Lent map_size (with_places b items)
unfolding with_places with_place
places_lent b items lent =
    store_stays with_place (Lent map_size) (λ c k p h. lent_words c (place_length * k) (place_words (word_at c (place_length * k)) p) h) items b 0 lent
