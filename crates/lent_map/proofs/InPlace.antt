-- Laws of the suspend map in place: at which places a look-up reads, and at which a remove or an insert stores. Assumes nothing.
use Prim.Native.Nat.{ℕ, zero, suc, ◌+◌, ◌*◌, ◌<◌, ◌≤◌, min}
use mathlib.Core.Path.{◌≡◌, refl, sym, ap, ◌∙◌}
use mathlib.Core.Bool.{Bool, true, false, cond, true≢false}
use mathlib.Core.List.{List, [], ◌∷◌}
use native.Mathlib.Omega.{arith}
use native.Mathlib.Nat.{add-zero, zero-add}
use lib.Dec.{eqb, ltb}
use borrow.Author.Tests.{ltb-true, ltb-false, lt-ltb, le-ltb, eqb-true, eqb-false}
use lib.ListN.{length, get_or, set}
use lib.Seq.{set_out, set-set}
use Rattle.lists.specs.Lists.{first_index}
use Rattle.lists.proofs.Laws.{index_fits, index_le}
use Rattle.lent_words.specs.Words.{word_at, each, store_each, with_words, read_code, kept_code, Bytes}
use Rattle.lent_words.proofs.Words.{length-each, get_d_each, each_same}
use Rattle.lent_words.proofs.RoundTrip.{lent_words, code_kept}
use Rattle.lent_words.proofs.InPlace.{words_rewritten, store_kept, one_stored}
use Rattle.simple_map.specs.declared.Item.{Item}
use Rattle.simple_map.specs.declared.SuspendCoreData.{SuspendCoreData}
use Rattle.simple_map.specs.Map.{free_place, taken, is_free, holds_key, value_of, without, get_item, insert_item, capacity_exceeded}
use Rattle.simple_map.proofs.Laws.{get_at, without_at, insert_at_lem}
use Rattle.lent_map.specs.Layout.{place_at, place_words, with_place, map_at, with_places, place_length, key_word, entry_point_word, context_id_word}
use Rattle.lent_map.proofs.Records.{place_beside}
use Rattle.std.specs.Prelude.{Err, None, Ok, Some, Option}

-- the value that stands in the words of a place
abbrev pub value_at : List ℕ → ℕ → SuspendCoreData
value_at b k = record { entry_point = word_at b (place_length * k + entry_point_word); context_id = word_at b (place_length * k + context_id_word) }

-- the place that its words make, where it is taken and where it is free
abbrev standing : List ℕ → ℕ → Bool → Option Item
standing b k t = cond t (taken (word_at b (place_length * k + key_word)) (value_at b k)) free_place

-- there are eight places
pub eight : (b : List ℕ) → length (map_at b).items ≡ 8
unfolding map_at
eight b = length-each (place_at b) 0 8

-- one of the eight places
pub place_of : (b : List ℕ) (k : ℕ) (d : Option Item) → k < 8 → get_or (map_at b).items k d ≡ place_at b k
unfolding map_at
place_of b k d h = get_d_each (place_at b) 0 8 k d h ∙ ap (place_at b) (zero-add k)

-- a word other than 1 reads as 0
not_taken : (w : ℕ) → (w ≡ 1 → ⊥) → read_code 2 w ≡ 0
not_taken w h = go (ltb w 2) refl
  where
    go : (t : Bool) → ltb w 2 ≡ t → cond t w 0 ≡ 0
    go true e = omega (arith, ltb-true w 2 e)
    go false e = refl

-- to store a place as it stands changes nothing
pub place_same : (b : List ℕ) (k : ℕ) → Bytes b → with_place b k (place_at b k) ≡ b
unfolding place_at with_place
place_same b k h = go (eqb (word_at b (place_length * k)) 1) refl
  where
    kept : (code : ℕ) → read_code 2 (word_at b (place_length * k)) ≡ code → kept_code 2 (word_at b (place_length * k)) code ≡ word_at b (place_length * k + 0)
    kept code e = ap (kept_code 2 (word_at b (place_length * k))) (sym e) ∙ code_kept 2 (word_at b (place_length * k)) ∙ ap (word_at b) (sym (add-zero (place_length * k)))

    go : (t : Bool) → eqb (word_at b (place_length * k)) 1 ≡ t
        → with_words b (place_length * k) (place_words (word_at b (place_length * k)) (standing b k t)) ≡ b
    go true e = rw (kept 1 (ap (read_code 2) (eqb-true (word_at b (place_length * k)) 1 e))) (words_rewritten b (place_length * k) place_length h)
    go false e = rw (kept 0 (not_taken (word_at b (place_length * k)) (eqb-false (word_at b (place_length * k)) 1 e))) (words_rewritten b (place_length * k) 1 h)

-- bytes are bytes after a place is stored
place_stays : (b : List ℕ) (k : ℕ) (p : Option Item) → Bytes b → Bytes (with_place b k p)
unfolding with_place
place_stays b k p h = (lent_words b (place_length * k) (place_words (word_at b (place_length * k)) p) (record { long = refl; bytes = h })).bytes

-- places of which one differs are stored by one store
one_from : (b : List ℕ) (k n i : ℕ) (p : Option Item) → i < n → Bytes b → store_each with_place b k (set (each (place_at b) k n) i p) ≡ with_place b (k + i) p
one_from = one_stored place_at with_place Bytes place_stays place_same place_beside

-- places of which two differ are stored by two stores, the lower first
two_from : (b : List ℕ) (k n i j : ℕ) (p q : Option Item) → j < i → i < n → Bytes b
    → store_each with_place b k (set (set (each (place_at b) k n) i p) j q) ≡ with_place (with_place b (k + j) q) (k + i) p
two_from b k zero i j p q l u h = absurd (omega arith)
two_from b k (suc n) zero j p q l u h = absurd (omega arith)
two_from b k (suc n) (suc i) zero p q l u h =
    let e : suc k + i ≡ k + suc i = omega arith in
    ap (λ (ps : List (Option Item)). store_each with_place (with_place b k q) (suc k) (set ps i p)) (each_same (place_at b) (place_at (with_place b k q)) (suc k) n (λ m a z. sym (place_beside b k q m (omega arith))))
    ∙ one_from (with_place b k q) (suc k) n i p (omega arith) (place_stays b k q h)
    ∙ rw (e, add-zero k)
two_from b k (suc n) (suc i) (suc j) p q l u h =
    let e : suc k + i ≡ k + suc i = omega arith in
    let f : suc k + j ≡ k + suc j = omega arith in
    ap (λ (c : List ℕ). store_each with_place c (suc k) (set (set (each (place_at b) (suc k) n) i p) j q)) (place_same b k h)
    ∙ two_from b (suc k) n i j p q (omega arith) (omega arith) h
    ∙ rw (e, f)

-- to store the map as it stands changes nothing
places_same : (b : List ℕ) → Bytes b → with_places b (map_at b).items ≡ b
unfolding map_at with_places
places_same b h = store_kept place_at with_place Bytes place_stays place_same place_beside b 0 8 h

-- to store the map with another place is to store the place
pub place_stored : (b : List ℕ) (k : ℕ) (p : Option Item) → Bytes b → k < 8 → with_places b (set (map_at b).items k p) ≡ with_place b k p
unfolding map_at with_places
place_stored b k p h l = one_from b 0 8 k p l h ∙ ap (λ (j : ℕ). with_place b j p) (zero-add k)

-- where an element that fits is stored, the first that fits stands there or before
index_set : {A : Type 0} (fits : A → Bool) (y : A) → fits y ≡ true → (l : List A) (i : ℕ) → first_index fits (set l i y) ≡ min i (first_index fits l)
index_set fits y e [] i = omega arith
index_set fits y e (x ∷ xs) zero = rw e (omega arith)
index_set fits y e (x ∷ xs) (suc i) = go (fits x) (index_set fits y e xs i)
  where
    go : (t : Bool) → first_index fits (set xs i y) ≡ min i (first_index fits xs)
        → cond t 0 (suc (first_index fits (set xs i y))) ≡ min (suc i) (cond t 0 (suc (first_index fits xs)))
    go true h = omega arith
    go false h = omega arith

-- a search answers one of the eight places, or 8
pub index_within : (b : List ℕ) (fits : Option Item → Bool) (k : ℕ) → k ≡ first_index fits (map_at b).items → k ≤ 8
index_within b fits k e = omega (arith, index_le fits (map_at b).items, eight b)

-- where a search finds a place, it fits
fits_there : (b : List ℕ) (fits : Option Item → Bool) (k : ℕ) → k ≡ first_index fits (map_at b).items → k < 8 → fits (place_at b k) ≡ true
fits_there b fits k e l =
    ap fits (sym (place_of b k free_place l) ∙ ap (λ (j : ℕ). get_or (map_at b).items j free_place) e)
    ∙ index_fits fits (map_at b).items free_place (omega (arith, eight b))

-- The place `held` is that of the first entry with the key.
module _ (b : List ℕ) (key held : ℕ) (at_key : held ≡ first_index (holds_key key) (map_at b).items) where
  -- a look-up reads there
  pub entry_at : get_item (map_at b) key ≡ cond (ltb held 8) (Some (value_at b held)) None
  unfolding place_at is_free holds_key value_of
  entry_at = get_at (map_at b) key ∙ rw (eight b, ← at_key) (go (ltb held 8) refl)
    where
      value : (t : Bool) → holds_key key (standing b held t) ≡ true → value_of (standing b held t) ≡ Some (value_at b held)
      value true e = refl
      value false e = absurd (true≢false (sym e))

      go : (t : Bool) → ltb held 8 ≡ t → cond t (value_of (get_or (map_at b).items held free_place)) None ≡ cond t (Some (value_at b held)) None
      go true e =
          ap value_of (place_of b held free_place (ltb-true held 8 e)) ∙ value (eqb (word_at b (place_length * held)) 1) (fits_there b (holds_key key) held at_key (ltb-true held 8 e))
      go false e = refl

  -- a remove frees that place
  pub removed_stored : Bytes b → with_places b (without key (map_at b).items) ≡ cond (ltb held 8) (with_place b held free_place) b
  removed_stored h = rw (without_at key (map_at b).items, ← at_key) (go (ltb held 8) refl)
    where
      go : (t : Bool) → ltb held 8 ≡ t → with_places b (set (map_at b).items held free_place) ≡ cond t (with_place b held free_place) b
      go true e = place_stored b held free_place h (ltb-true held 8 e)
      go false e = rw (set_out (map_at b).items held free_place (omega (arith, eight b, ltb-false held 8 e))) (places_same b h)

  -- The place `free` is the first that is free, and `value` is to be held.
  module _ (value : SuspendCoreData) (free : ℕ) (at-free : free ≡ first_index is_free (map_at b).items) where
    -- an insert, by the lower of the two places
    inserted : insert_item (map_at b) key value
        ≡ cond (ltb (min held free) 8)
        (record { answer = Ok tt; map = record { items = set (set (map_at b).items held free_place) (min held free) (taken key value) } })
        (record { answer = Err capacity_exceeded; map = map_at b })
    unfolding is_free holds_key
    inserted =
        insert_at_lem (map_at b) key value
        ∙ rw (eight b, without_at key (map_at b).items, index_set is_free free_place refl (map_at b).items (first_index (holds_key key) (map_at b).items), ← at_key, ← at-free)

    -- the entry with the key stands before a free place: the new one takes its place
    pub inserted_there : held < free → insert_item (map_at b) key value ≡ record { answer = Ok tt; map = record { items = set (map_at b).items held (taken key value) } }
    inserted_there l =
        let e : min held free ≡ held = omega arith in
        inserted ∙ rw (e, lt-ltb held 8 (omega (arith, index_within b is_free free at-free)), set-set (map_at b).items held free_place (taken key value))

    -- no place is free, and none holds the key
    pub not_inserted : free ≤ held → 8 ≤ free → insert_item (map_at b) key value ≡ record { answer = Err capacity_exceeded; map = map_at b }
    not_inserted l m = inserted ∙ rw (le-ltb (min held free) 8 (omega arith))

    -- a free place stands before the entry with the key, if there is one
    pub inserted_before : free ≤ held → free < 8
        → insert_item (map_at b) key value ≡ record { answer = Ok tt; map = record { items = set (set (map_at b).items held free_place) free (taken key value) } }
    inserted_before l m =
        let e : min held free ≡ free = omega arith in
        inserted ∙ rw (e, lt-ltb free 8 m)

    -- what holds the key is not free
    apart : held < 8 → held ≡ free → ⊥
    unfolding place_at is_free holds_key
    apart l e =
        go (eqb (word_at b (place_length * held)) 1) (fits_there b (holds_key key) held at_key l) (fits_there b is_free held (e ∙ at-free) l)
      where
        go : (t : Bool) → holds_key key (standing b held t) ≡ true → is_free (standing b held t) ≡ true → ⊥
        go true e f = true≢false (sym f)
        go false e f = true≢false (sym e)

    -- the new entry is stored there, and that with the key, if there is one, is freed
    pub both_stored : free ≤ held → free < 8 → Bytes b
        → with_places b (set (set (map_at b).items held free_place) free (taken key value))
        ≡ cond (ltb held 8) (with_place (with_place b free (taken key value)) held free_place) (with_place b free (taken key value))
    unfolding map_at with_places
    both_stored l m h = go (ltb held 8) refl
      where
        go : (t : Bool) → ltb held 8 ≡ t
            → with_places b (set (set (map_at b).items held free_place) free (taken key value))
            ≡ cond t (with_place (with_place b free (taken key value)) held free_place) (with_place b free (taken key value))
        go true e =
            let before : free < held = omega (arith, apart (ltb-true held 8 e)) in
            two_from b 0 8 held free free_place (taken key value) before (ltb-true held 8 e) h ∙ rw (zero-add free, zero-add held)
        go false e =
            rw (set_out (map_at b).items held free_place (omega (arith, eight b, ltb-false held 8 e))) (place_stored b free (taken key value) h m)

-- where no place is free, and none holds the key, an insert is refused
pub none_inserted : (b : List ℕ) (key : ℕ) (value : SuspendCoreData) → first_index is_free (map_at b).items ≤ first_index (holds_key key) (map_at b).items
    → 8 ≤ first_index is_free (map_at b).items → (Err capacity_exceeded) ≡ (insert_item (map_at b) key value).answer
none_inserted b key value l m = rw (not_inserted b key _ refl value _ refl l m)
