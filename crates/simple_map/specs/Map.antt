-- The suspend map (document 01, "Parked entry": an item is a parked entry, its key, entry point and context id). Maps handed in may hold
-- a key twice. Assumes nothing.
use Rattle.std.specs.Prelude.{Bool, is_none, false, ◌||◌, cond, List, [], ◌∷◌, ℕ, eqb, replicate, Err, None, Ok, Option, Result, Some, ⊤}
use Rattle.lists.specs.Refusals.{answer_number}
use Rattle.lists.specs.Lists.{first_of, any_of, replace_first}
use Rattle.simple_map.specs.declared.SuspendCoreData.{SuspendCoreData}
use Rattle.simple_map.specs.declared.SimpleMap.{SimpleMap}
use Rattle.simple_map.specs.declared.Inserted.{Inserted}
use Rattle.simple_map.specs.declared.Removed.{Removed}
use Rattle.simple_map.specs.declared.CapacityExceeded.{CapacityExceeded}
use Rattle.simple_map.specs.declared.Item.{Item}

-- a place that holds no item
abbrev pub free_place : Option Item
free_place = (None)

-- a place that holds an item
abbrev pub taken : ℕ → SuspendCoreData → Option Item
taken key value = (Some (record { key = key; value = value }))

-- an item has the key
abbrev pub has_key : ℕ → Option Item → Bool
has_key key None = false
has_key key (Some i) = eqb i.key key

-- a place is free
unfoldable pub is_free : Option Item → Bool
is_free place = is_none place

-- a place holds an item with the key
unfoldable pub holds_key : ℕ → Option Item → Bool
holds_key key place = has_key key place

-- the value of an item, or none
abbrev pub item_value : Option Item → Option SuspendCoreData
item_value None = None
item_value (Some i) = Some i.value

-- what a place holds
unfoldable pub value_of : Option Item → Option SuspendCoreData
value_of place = item_value place

-- no place is taken
unfoldable pub empty_map : SimpleMap
empty_map = record { items = replicate 8 free_place }

-- the places without the first item with the key
unfoldable pub without : ℕ → List (Option Item) → List (Option Item)
without key items = replace_first (holds_key key) free_place items

-- "Look-up and remove give the first entry with that key, or the answer none"
unfoldable pub get_item : SimpleMap → ℕ → Option SuspendCoreData
get_item map key = first_of (holds_key key) value_of None map.items

-- the same for remove, and the map without that entry
unfoldable pub remove_item : SimpleMap → ℕ → Removed
remove_item map key = record { removed = get_item map key; map = record { items = without key map.items } }

-- 16 "key not held, all 8 places taken": there is room where the key is held or a place is free
unfoldable pub has_room : SimpleMap → ℕ → Bool
has_room map key = any_of (holds_key key) map.items || any_of is_free map.items

-- the one refusal of an insertion
abbrev pub capacity_exceeded : CapacityExceeded
capacity_exceeded = record {}

-- "Insert first removes the first entry with the same key, then uses the first free place"; a refusal leaves the map as it was
unfoldable pub insert_item : SimpleMap → ℕ → SuspendCoreData → Inserted
insert_item map key value =
    cond (has_room map key)
    (record { answer = Ok tt; map = record { items = replace_first is_free (taken key value) (without key map.items) } })
    (record { answer = Err capacity_exceeded; map = map })

-- the number of a refused insertion in document 01's table. A look-up has no refusal: none is an answer.
abbrev pub capacity_number : CapacityExceeded → ℕ
capacity_number error = 16

-- the number of an insertion's answer
abbrev pub insert_number : Result ⊤ CapacityExceeded → ℕ
insert_number answer = answer_number capacity_number answer

-- the result fields of a look-up: 1 where an entry is found, its entry point and its context id; zeros where none is
abbrev pub lookup_values : Option SuspendCoreData → List ℕ
lookup_values None = 0 ∷ 0 ∷ 0 ∷ []
lookup_values (Some v) = 1 ∷ v.entry_point ∷ v.context_id ∷ []
