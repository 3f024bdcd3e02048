-- Laws on the suspend map. Assumes nothing.
use Prim.Native.Nat.{ℕ}
use mathlib.Core.Path.{◌≡◌, refl, sym, ◌∙◌, ap}
use mathlib.Core.Bool.{cond, true, false, true≢false}
use native.Mathlib.Omega.{arith}
use mathlib.Core.List.{List, Memᴰ}
use lib.Dec.{ltb}
use borrow.Author.Tests.{lt-ltb, le-ltb}
use lib.ListN.{length, get_or, set}
use Rattle.lists.specs.Lists.{any_of, first_index}
use Rattle.lists.proofs.Laws.{replace_at, first-at, length_replace, first_none, none_first, any_at, replace_any, cond_all}
use Rattle.simple_map.specs.declared.SimpleMap.{SimpleMap}
use Rattle.simple_map.specs.declared.SuspendCoreData.{SuspendCoreData}
use Rattle.simple_map.specs.Map.{has_key, item_value, is_free, taken, holds_key, free_place, without, has_room, value_of, get_item, remove_item, insert_item, insert_number, capacity_exceeded}
use Rattle.simple_map.specs.declared.Inserted.{Inserted}
use Rattle.simple_map.specs.declared.Removed.{Removed}
use Rattle.std.specs.Prelude.{Err, None, Ok, Option, Some, position}
use Rattle.lists.proofs.Places.{found_at, found_nowhere, first_found, none_found, replaced_found, none_replaced}
use Rattle.simple_map.specs.declared.Item.{Item}

-- the first item with the key, by its place
pub get_at : (map : SimpleMap) (key : ℕ)
    → get_item map key
    ≡ cond (ltb (first_index (holds_key key) map.items) (length map.items))
    (value_of (get_or map.items (first_index (holds_key key) map.items) free_place))
    None
unfolding get_item
get_at map key = first-at (holds_key key) value_of None map.items free_place

pub without_at : (key : ℕ) (items : List (Option Item)) → without key items ≡ set items (first_index (holds_key key) items) free_place
unfolding without
without_at key items = replace_at (holds_key key) free_place items

module _ (map : SimpleMap) (key : ℕ) where
  -- look-up and removal of the first item with the key, by its place
  pub get_found : (at : ℕ) → position (holds_key key) map.items ≡ Some at → value_of (get_or map.items at free_place) ≡ get_item map key
  unfolding get_item
  get_found at e = sym (first_found (holds_key key) value_of None map.items at free_place e)

  pub remove_found : (at : ℕ) → position (holds_key key) map.items ≡ Some at
      → record { removed = get_item map key; map = record { items = set map.items at free_place } } ≡ remove_item map key
  unfolding remove_item without
  remove_found at e = rw (replaced_found (holds_key key) free_place map.items at e)

  -- and where no item has it
  pub get_missing : position (holds_key key) map.items ≡ None → None ≡ get_item map key
  unfolding get_item
  get_missing e = sym (none_found (holds_key key) value_of None map.items e)

  pub remove_missing : position (holds_key key) map.items ≡ None → record { removed = get_item map key; map = map } ≡ remove_item map key
  unfolding remove_item without
  remove_missing e = rw (none_replaced (holds_key key) free_place map.items e)

item_differs : (key : ℕ) (item : Option Item) → has_key key item ≡ true → item_value item ≡ None → ⊥
item_differs key None t e = true≢false (sym t)
item_differs key (Some i) t e = let z : ◌≡◌ {A = ℕ} 0 1 = cc in omega arith

-- look-up answers none exactly where no place holds the key
pub get_none : (map : SimpleMap) (key : ℕ) → get_item map key ≡ None → (place : Option Item) → Memᴰ place map.items
    → holds_key key place ≡ false
unfolding get_item is_free holds_key value_of
get_none map key e = first_none (holds_key key) value_of None (λ place. item_differs key place) map.items e

pub none_get : (map : SimpleMap) (key : ℕ) → ((place : Option Item) → Memᴰ place map.items → holds_key key place ≡ false)
    → get_item map key ≡ None
unfolding get_item
none_get map key h = none_first (holds_key key) value_of None map.items h

-- there is room where a place is free once the first item with the key is removed
pub room_any : (map : SimpleMap) (key : ℕ) → has_room map key ≡ any_of is_free (without key map.items)
unfolding has_room without is_free holds_key
room_any map key = sym (replace_any (holds_key key) is_free free_place refl map.items)

module _ (map : SimpleMap) (key : ℕ) (value : SuspendCoreData) where
  -- the places once the first item with the key is removed
  abbrev rest : List (Option Item)
  rest = without key map.items

  -- there is room where one of them is free
  room_at : has_room map key ≡ ltb (first_index is_free rest) (length rest)
  room_at = room_any map key ∙ any_at is_free rest

  -- to insert is to store at the first free place
  pub insert_at_lem : insert_item map key value
      ≡ cond (ltb (first_index is_free rest) (length map.items))
      (record { answer = Ok tt; map = record { items = set rest (first_index is_free rest) (taken key value) } })
      (record { answer = Err capacity_exceeded; map = map })
  unfolding insert_item without
  insert_at_lem =
      let e : has_room map key ≡ ltb (first_index is_free rest) (length map.items) =
      room_at ∙ ap (ltb (first_index is_free rest)) (length_replace (holds_key key) free_place map.items)
      in
      rw (e, replace_at is_free (taken key value) rest)

  -- by the free place found once the key is removed: the item is stored there, or none is free
  pub insert_stores : (removed : Removed) (at : ℕ) → removed ≡ remove_item map key → position is_free removed.map.items ≡ Some at
      → record { answer = Ok tt; map = record { items = set removed.map.items at (taken key value) } } ≡ insert_item map key value
  unfolding insert_item remove_item
  insert_stores removed at r e =
      let e' : position is_free rest ≡ Some at = sym (ap (λ s. position is_free s.map.items) r) ∙ e in
      let f = found_at is_free rest at e' in
      sym (rw (r, room_at, f.1, lt-ltb at (length rest) f.0, replaced_found is_free (taken key value) rest at e'))

  pub insert_full : (removed : Removed) → removed ≡ remove_item map key → position is_free removed.map.items ≡ None
      → record { answer = Err capacity_exceeded; map = map } ≡ insert_item map key value
  unfolding insert_item remove_item
  insert_full removed r e =
      let past = found_nowhere is_free rest (sym (ap (λ s. position is_free s.map.items) r) ∙ e) in
      sym (rw (room_at, le-ltb (first_index is_free rest) (length rest) past))

  -- 16 exactly where the key is not held and all places are taken; the map is then as it was
  pub no_room_refused : has_room map key ≡ false → insert_item map key value ≡ record { answer = Err capacity_exceeded; map = map }
  unfolding insert_item
  no_room_refused e = rw e

  pub room_accepted : has_room map key ≡ true → insert_number (insert_item map key value).answer ≡ 0
  unfolding insert_item
  room_accepted e = rw e

-- an insertion that is refused leaves the map
pub insert_refused : (map : SimpleMap) (key : ℕ) (value : SuspendCoreData) → (insert_number (insert_item map key value).answer ≡ 0 → ⊥)
    → (insert_item map key value).map ≡ map
unfolding insert_item
insert_refused map key value =
    cond_all (λ (i : Inserted). (insert_number i.answer ≡ 0 → ⊥) → i.map ≡ map) (has_room map key) _ _ (λ h. absurd (h refl)) (λ h. refl)
