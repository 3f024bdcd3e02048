-- Laws on the suspend map where each of eight cores uses one key: no insert finds it full, and each core finds its own entry. Assumes nothing.
use Prim.Native.Nat.{ℕ, ◌+◌, ◌≤◌, ◌<◌, min}
use mathlib.Core.Path.{◌≡◌, refl, sym, ◌∙◌}
use mathlib.Core.Bool.{true, false, true≢false}
use mathlib.Core.List.{List}
use native.Mathlib.Omega.{arith}
use native.Mathlib.Decide.{ℕ_discrete}
use borrow.Author.Tests.{lt-ltb, eqb-true, eq-eqb, ne_eqb}
use Rattle.lists.specs.Lists.{replace_first}
use Rattle.lists.specs.Counts.{count_of, sum_to}
use Rattle.lists.proofs.Laws.{cond_all}
use Rattle.lists.proofs.Counts.{any_count, count_none, replace_count, replace_passed, replace_found, sum_le_but, sum_change}
use Rattle.simple_map.specs.declared.SimpleMap.{SimpleMap}
use Rattle.simple_map.specs.declared.SuspendCoreData.{SuspendCoreData}
use Rattle.simple_map.specs.declared.Inserted.{Inserted}
use Rattle.simple_map.specs.Map.{has_key, is_free, holds_key, free_place, taken, value_of, empty_map, without, get_item, remove_item, has_room, insert_item}
use Rattle.simple_map.specs.Keys.{KeysDiffer, HoldsKeys}
use Rattle.simple_map.proofs.Laws.{room_any}
use Rattle.std.specs.Prelude.{None, Ok, Option, Some, is_none}
use Rattle.simple_map.specs.declared.Item.{Item}

-- what holds a key is not free
key-not-free : (k : ℕ) (item : Option Item) → has_key k item ≡ true → is_none item ≡ false
key-not-free k None e = sym e
key-not-free k (Some i) e = refl

-- what is free holds no key
free_no_key : (k : ℕ) (item : Option Item) → is_none item ≡ true → has_key k item ≡ false
free_no_key k None e = refl
free_no_key k (Some i) e = absurd (true≢false (sym e))

-- what holds a key holds no other
one_key : (k j : ℕ) → (k ≡ j → ⊥) → (item : Option Item) → has_key k item ≡ true → has_key j item ≡ false
one_key k j differ None e = refl
one_key k j differ (Some i) e = ne_eqb i.key j (λ q. differ (sym (eqb-true i.key k e) ∙ q))

-- to remove an entry leaves what is found under another key
pub get_removed_other : (map : SimpleMap) (k j : ℕ) → (k ≡ j → ⊥) → get_item (remove_item map k).map j ≡ get_item map j
unfolding remove_item without get_item is_free holds_key
get_removed_other map k j differ =
    replace_passed (holds_key k) (holds_key j) free_place value_of None (λ p. one_key k j differ p) refl map.items

-- so does an insert, accepted or not
pub get_inserted_other : (map : SimpleMap) (k j : ℕ) (value : SuspendCoreData) → (k ≡ j → ⊥)
    → get_item (insert_item map k value).map j ≡ get_item map j
unfolding insert_item remove_item get_item is_free holds_key
get_inserted_other map k j value differ =
    let passed = replace_passed is_free (holds_key j) (taken k value) value_of None (λ p. free_no_key j p) (ne_eqb k j differ) in
    cond_all (λ (r : Inserted). get_item r.map j ≡ get_item map j) (has_room map k) _ _
    (passed (without k map.items) ∙ get_removed_other map k j differ) refl

-- As many places as before are free or hold the key `k`, and as many hold each other key.
record Moved (k : ℕ) (before after : List (Option Item)) : Type 0 where
  total : count_of is_free after + count_of (holds_key k) after ≡ count_of is_free before + count_of (holds_key k) before
  others : (j : ℕ) → (k ≡ j → ⊥) → count_of (holds_key j) after ≡ count_of (holds_key j) before

module _ (k : ℕ) (l : List (Option Item)) where
  -- to remove an entry leaves one place less with the key, where there is one
  removed_own : count_of (holds_key k) (without k l) + min 1 (count_of (holds_key k) l) ≡ count_of (holds_key k) l
  unfolding without is_free holds_key
  removed_own = omega (arith, replace_count (holds_key k) (holds_key k) free_place true false (λ p e. e) refl l)

  -- to remove an entry makes a place with the key free, and no other
  removed_moved : Moved k l (without k l)
  unfolding without is_free holds_key
  removed_moved = record {
    total = omega (arith, removed_own, replace_count (holds_key k) is_free free_place false true (λ p. key-not-free k p) refl l);
    others = λ j differ.
        omega (arith, replace_count (holds_key k) (holds_key j) free_place false false (λ p. one_key k j differ p) refl l);
  }

  module _ (value : SuspendCoreData) where
    -- the places with an entry stored in the first that is free
    abbrev filled : List (Option Item)
    filled = replace_first is_free (taken k value) l

    -- to store an entry leaves one place more with the key, where one was free
    filled_own : count_of (holds_key k) filled ≡ count_of (holds_key k) l + min 1 (count_of is_free l)
    unfolding is_free holds_key
    filled_own =
        omega (arith, replace_count is_free (holds_key k) (taken k value) false true (λ p. free_no_key k p) (eq-eqb k k refl) l)

    -- to store an entry takes a free place, and no other
    filled_moved : Moved k l filled
    unfolding is_free holds_key
    filled_moved = record {
      total = omega (arith, filled_own, replace_count is_free is_free (taken k value) true false (λ p e. e) refl l);
      others = λ j differ.
          omega (arith, replace_count is_free (holds_key j) (taken k value) false false (λ p. free_no_key j p) (ne_eqb k j differ) l);
    }

-- a new map holds no key
pub empty_holds : (key : ℕ → ℕ) → HoldsKeys key empty_map
unfolding empty_map is_free holds_key
empty_holds key = record { places = refl; once = λ c w. omega arith }

module _ (key : ℕ → ℕ) (differ : KeysDiffer key) where
  -- where the places of one core's key move, and are at most one, each place still is free or holds the key of one core
  moved_holds : (map next : SimpleMap) → HoldsKeys key map → (c : ℕ) → c < 8 → Moved (key c) map.items next.items
      → count_of (holds_key (key c)) next.items ≤ 1 → HoldsKeys key next
  moved_holds map next holds c within moved single = record { places = places; once = λ d w. once d w (ℕ_discrete d c) }
    where
      kept : (d : ℕ) → d < 8 → (d ≡ c → ⊥) → count_of (holds_key (key d)) next.items ≡ count_of (holds_key (key d)) map.items
      kept d w e = moved.others (key d) (λ q. e (sym (differ c d within w q)))

      places : count_of is_free next.items + sum_to 8 (λ d. count_of (holds_key (key d)) next.items) ≡ 8
      places =
          let held : SimpleMap → ℕ → ℕ = λ m d. count_of (holds_key (key d)) m.items in
          omega (arith, moved.total, holds.places, sum_change 8 (held next) (held map) c within kept)

      once : (d : ℕ) → d < 8 → Dec (d ≡ c) → count_of (holds_key (key d)) next.items ≤ 1
      once d w (yes e) = rw e single
      once d w (no e) = rw (kept d w e) (holds.once d w)

  module _ (map : SimpleMap) (holds : HoldsKeys key map) (c : ℕ) (within : c < 8) where
    -- the places once the core's entry is removed
    abbrev rest : List (Option Item)
    rest = without (key c) map.items

    -- none of them holds the core's key
    rest_own : count_of (holds_key (key c)) rest ≡ 0
    rest_own = omega (arith, removed_own (key c) map.items, holds.once c within)

    -- once a core's entry is removed, each place still is free or holds the key of one core
    pub remove_holds : HoldsKeys key (remove_item map (key c)).map
    unfolding remove_item
    remove_holds = moved_holds map (record { items = rest }) holds c within (removed_moved (key c) map.items) (omega (arith, rest_own))

    -- a core finds nothing once its entry is removed
    pub get_removed : get_item (remove_item map (key c)).map (key c) ≡ None
    unfolding get_item remove_item
    get_removed = count_none (holds_key (key c)) value_of None rest rest_own

    -- one of them is free: they hold at most seven keys
    rest-free : 0 < count_of is_free rest
    unfolding remove_item
    rest-free =
        let others = sum_le_but 8 (λ d. count_of (holds_key (key d)) rest) (λ d. 1) c within (λ d w e. remove_holds.once d w) in
        omega (arith, remove_holds.places, others, rest_own)

    -- there is room for a core's entry
    room : has_room map (key c) ≡ true
    room = room_any map (key c) ∙ any_count is_free rest ∙ lt-ltb 0 (count_of is_free rest) rest-free

    module _ (value : SuspendCoreData) where
      -- no insert of a core's entry finds the map full
      pub insert_accepted : (insert_item map (key c) value).answer ≡ Ok tt
      unfolding insert_item
      insert_accepted = rw room

      -- once a core's entry is inserted, each place still is free or holds the key of one core
      pub insert_holds : HoldsKeys key (insert_item map (key c) value).map
      unfolding insert_item remove_item
      insert_holds =
          let single : count_of (holds_key (key c)) (filled (key c) rest value) ≤ 1 = omega (arith, filled_own (key c) rest value, rest_own) in
          rw room (moved_holds _ _ remove_holds c within (filled_moved (key c) rest value) single)

      -- the core finds what it inserted
      pub get_inserted : get_item (insert_item map (key c) value).map (key c) ≡ Some value
      unfolding insert_item get_item value_of is_free holds_key
      get_inserted =
          let own = eq-eqb (key c) (key c) refl in
          rw room (replace_found is_free (holds_key (key c)) (taken (key c) value) value_of None own rest rest-free rest_own)
