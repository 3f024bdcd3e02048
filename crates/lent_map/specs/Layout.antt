-- Where the words of the suspend map stand in the bytes that a host lends. Any bytes are a map. Assumes nothing.
use Rattle.std.specs.Prelude.{ℕ, Bool, ◌+◌, ◌*◌, cond, List, [], ◌∷◌, eqb, None, Option, Some}
use Rattle.lent_words.specs.Words.{word_at, each, store_each, with_words, kept_code}
use Rattle.simple_map.specs.declared.SimpleMap.{SimpleMap}
use Rattle.simple_map.specs.Map.{free_place, taken, is_free, holds_key}
use Rattle.simple_map.specs.declared.Item.{Item}

-- the words of a place of the suspend map: 1 where it is taken, then key, entry point and context id; the eight stand from word 0 on
abbrev pub key_word : ℕ
key_word = 1

abbrev pub entry_point_word : ℕ
entry_point_word = 2

abbrev pub context_id_word : ℕ
context_id_word = 3

abbrev pub place_length : ℕ
place_length = 4

-- the length of the map's buffer, in bytes: eight places
abbrev pub map_size : ℕ
map_size = 8 * (8 * place_length)

unfoldable pub place_at : List ℕ → ℕ → Option Item
place_at map k =
    let at = place_length * k in
    cond (eqb (word_at map at) 1)
    (taken (word_at map (at + key_word)) (record { entry_point = word_at map (at + entry_point_word); context_id = word_at map (at + context_id_word) }))
    free_place

-- the words of a place, where its first word was `old`: a place that becomes free keeps the other three
abbrev pub place_words : ℕ → Option Item → List ℕ
place_words old None = kept_code 2 old 0 ∷ []
place_words old (Some i) = kept_code 2 old 1 ∷ i.key ∷ i.value.entry_point ∷ i.value.context_id ∷ []

unfoldable pub with_place : List ℕ → ℕ → Option Item → List ℕ
with_place map k place = with_words map (place_length * k) (place_words (word_at map (place_length * k)) place)

unfoldable pub map_at : List ℕ → SimpleMap
map_at map = record { items = each (place_at map) 0 8 }

unfoldable pub with_places : List ℕ → List (Option Item) → List ℕ
with_places map items = store_each with_place map 0 items

-- a place holds what is sought: an entry with the key, or else no entry
abbrev pub fits_sought : Option ℕ → Option Item → Bool
fits_sought (Some key) place = holds_key key place
fits_sought None place = is_free place
