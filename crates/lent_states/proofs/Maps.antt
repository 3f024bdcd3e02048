-- Calls on a lent suspend map: the map that the bytes then hold is the one that the library's call hands back. Assumes nothing.
use Prim.Native.Nat.{ℕ, ◌+◌, ◌*◌}
use mathlib.Core.Path.{◌≡◌, refl, ◌∙◌}
use mathlib.Core.Bool.{Bool, true, false, cond}
use mathlib.Core.List.{List}
use lib.Dec.{eqb}
use lib.ListN.{length}
use Rattle.lists.specs.Lists.{replace_first}
use Rattle.lists.proofs.Laws.{cond_all, length_replace}
use Rattle.lent_words.specs.Words.{word_at, FitsWord, Bytes, Lent}
use Rattle.lent_words.proofs.Words.{length-each}
use Rattle.lent_words.proofs.RoundTrip.{Every, word_fits}
use Rattle.lent_words.proofs.Every.{every_each, every_replace}
use Rattle.simple_map.specs.declared.Inserted.{Inserted}
use Rattle.simple_map.specs.declared.Item.{Item}
use Rattle.simple_map.specs.Map.{free_place, taken, is_free, holds_key, has_room, without, insert_item, insert_number, remove_item, capacity_exceeded}
use Rattle.lent_map.specs.Layout.{map_size, place_at, map_at, with_places}
use Rattle.lent_map.proofs.Records.{ItemFits}
use Rattle.lent_map.proofs.States.{places_back}
use Rattle.ritm.specs.Interface.{unless_refused, insert_call, remove_call}
use Rattle.std.specs.Prelude.{Err, Ok, Option}

-- the numbers of a place fit words
abbrev PlaceFits : Option Item → Type 0
PlaceFits p = ItemFits p

-- what bytes hold fits words
place_fits_lem : (b : List ℕ) → Bytes b → (k : ℕ) → PlaceFits (place_at b k)
unfolding place_at
place_fits_lem b h k =
    cond_all PlaceFits (eqb (word_at b (4 * k)) 1)
    (taken (word_at b (4 * k + 1)) (record { entry_point = word_at b (4 * k + 2); context_id = word_at b (4 * k + 3) }))
    free_place
    (word_fits b (4 * k + 1) h, (word_fits b (4 * k + 2) h, (word_fits b (4 * k + 3) h, tt)))
    tt

module _ (b : List ℕ) (key : ℕ) (lent : Lent map_size b) where
  all_fit : Every PlaceFits (map_at b).items
  unfolding map_at
  all_fit = every_each PlaceFits (place_at b) (place_fits_lem b lent.bytes) 0 8

  eight : length (map_at b).items ≡ 8
  unfolding map_at
  eight = length-each (place_at b) 0 8

  without-fits : Every PlaceFits (without key (map_at b).items)
  unfolding without
  without-fits = every_replace PlaceFits (holds_key key) free_place (map_at b).items all_fit tt

  without_eight : length (without key (map_at b).items) ≡ 8
  unfolding without
  without_eight = length_replace (holds_key key) free_place (map_at b).items ∙ eight

  -- `ritm_remove`
  pub remove_held : map_at (remove_call b key).state ≡ (remove_item (map_at b) key).map
  unfolding remove_call remove_item
  remove_held = places_back b (without key (map_at b).items) lent without_eight without-fits

  -- `ritm_insert`
  pub insert_held : (entry context : ℕ) → FitsWord key → FitsWord entry → FitsWord context
      → map_at (insert_call b key entry context).state ≡ (insert_item (map_at b) key (record { entry_point = entry; context_id = context })).map
  unfolding insert_call insert_item
  insert_held entry context f g h = go (has_room (map_at b) key)
    where
      place : Option Item
      place = taken key (record { entry_point = entry; context_id = context })

      items : List (Option Item)
      items = replace_first is_free place (without key (map_at b).items)

      inserted : Bool → Inserted
      inserted room = cond room (record { answer = Ok tt; map = record { items = items } }) (record { answer = Err capacity_exceeded; map = map_at b })

      go : (room : Bool) → map_at (unless_refused (insert_number (inserted room).answer) b (with_places b (inserted room).map.items)) ≡ (inserted room).map
      go true =
          places_back b items lent
          (length_replace is_free place (without key (map_at b).items) ∙ without_eight)
          (every_replace PlaceFits is_free place (without key (map_at b).items) without-fits (f, (g, (h, tt))))
      go false = refl
