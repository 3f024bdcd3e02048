-- What the suspend map's calls leave in the bytes that a host lends, by the definitions that the library's own contracts cite. Any bytes
-- are a map. Assumes nothing.
use Rattle.std.specs.Prelude.{ℕ, List, []}
use Rattle.simple_map.specs.Map.{get_item, insert_item, insert_number, remove_item, lookup_values}
use Rattle.lent_words.specs.Words.{bytes_of, Left, unless_refused}
use Rattle.lent_map.specs.Layout.{map_at, with_places}

-- `insert`
unfoldable pub insert_call : List ℕ → ℕ → ℕ → ℕ → Left
insert_call map key entry context =
    let inserted = insert_item (map_at map) key (record { entry_point = entry; context_id = context }) in
    let number = insert_number inserted.answer in
    record { number = number; state = unless_refused number map (with_places map inserted.map.items); result = [] }

-- `get`
unfoldable pub get_call : List ℕ → ℕ → Left
get_call map key = record { number = 0; state = map; result = bytes_of (lookup_values (get_item (map_at map) key)) }

-- `remove`
unfoldable pub remove_call : List ℕ → ℕ → Left
remove_call map key =
    let removed = remove_item (map_at map) key in
    record { number = 0; state = with_places map removed.map.items; result = bytes_of (lookup_values removed.removed) }
