-- Laws on a list without its first element that fits, and on the loop that takes it out of an array. Assumes nothing.
use Prim.Native.Nat.{ℕ, suc, ◌+◌, ◌-◌, ◌≤◌, ◌<◌, min}
use mathlib.Core.Path.{◌≡◌, refl, sym, ◌∙◌, ap}
use mathlib.Core.Bool.{Bool, true, false, cond, true≢false}
use mathlib.Core.List.Memᴰ
use mathlib.Core.List.{List, [], ◌∷◌, ◌++◌, foldl-append, append_assoc, Memᴰ}
use mathlib.Core.Logic.{◌⊎◌, inl, inr}
use native.Mathlib.Omega.{arith}
use native.Mathlib.Numerals.{add-one}
use borrow.Author.Tests.{lt-ltb}
use lib.Dec.{ltb}
use lib.ListN.{length, take, drop, set, get_or, length-append, length-drop, take-append-drop}
use lib.Seq.{take_at, take-take, take-suc-set, take-set-lt, drop-set-lt}
use Rattle.lists.specs.Lists.{held, any_of, first_index, without_first, insert_before, remove_at, in_first_places, Ascending}
use Rattle.lists.specs.Sorting.{insert_by, sort_by}
use Rattle.lists.proofs.Laws.{FirstFit, first_or_none, none_any, any_at, drop_step, drop-done, held_within, length-held, cond_all}
use Rattle.lists.proofs.Every.{Every, every_append, every_take, every_drop}
use Rattle.lists.proofs.Sorting.{perm_member, insert_later, sort_perm}

-- a list loses its first element that fits, and keeps the others in their order
abbrev pub LosesFirst : {A : Type 0} → (A → Bool) → List A → List A → Type 0
LosesFirst {A} fits l m = (x : A) × (f : FirstFit fits l x) × (m ≡ f.before ++ f.after)

-- so do the records that an array of `limit` places holds by a count: the count is then their number, and there are as many places
pub record Loses {A : Type 0} (fits : A → Bool) (limit : ℕ) (count : ℕ) (l : List A) (count' : ℕ) (l' : List A) : Type 0 where
  pub first : LosesFirst fits (held limit count l) (held limit count' l')
  pub counted : count' ≡ length (held limit count' l')
  pub places : length l' ≡ length l

module _ {A : Type 0} (fits : A → Bool) where
  -- what goes is the first that fits
  pub without_parts : (before : List A) (x : A) (after : List A) → ((y : A) → Memᴰ y before → fits y ≡ false) → fits x ≡ true
      → without_first fits (before ++ (x ∷ after)) ≡ before ++ after
  without_parts [] x after h t = rw t
  without_parts (y ∷ ys) x after h t =
      rw (h y (Memᴰ.head refl)) (ap (◌∷◌ y) (without_parts ys x after (λ z m. h z (Memᴰ.tail m)) t))

  pub without_first_lem : (l : List A) (x : A) (f : FirstFit fits l x) → without_first fits l ≡ f.before ++ f.after
  without_first_lem l x f = ap (without_first fits) f.parts ∙ without_parts f.before x f.after f.none_before f.here

  -- where none fits, nothing goes
  pub without_none : (l : List A) → ((y : A) → Memᴰ y l → fits y ≡ false) → without_first fits l ≡ l
  without_none [] h = refl
  without_none (x ∷ xs) h = rw (h x (Memᴰ.head refl)) (ap (◌∷◌ x) (without_none xs (λ z m. h z (Memᴰ.tail m))))

  -- where some element fits, there is a first one, and it goes
  pub any_first : (l : List A) → any_of fits l ≡ true → (x : A) × FirstFit fits l x
  any_first l e = go (first_or_none fits l)
    where
      go : ((x : A) × FirstFit fits l x) ⊎ ((x : A) → Memᴰ x l → fits x ≡ false) → (x : A) × FirstFit fits l x
      go (inl w) = w
      go (inr h) = absurd (true≢false (sym e ∙ none_any fits l h))

  pub any_loses : (l : List A) → any_of fits l ≡ true → LosesFirst fits l (without_first fits l)
  any_loses l e =
      let w = any_first l e in
      (w.0, w.1, without_first_lem l w.0 w.1)

  -- what is left was there
  pub without_member : (l : List A) (z : A) → Memᴰ z (without_first fits l) → Memᴰ z l
  without_member [] z m = m
  without_member (x ∷ xs) z m = go (fits x) m (without_member xs z)
    where
      later : (z ≡ x) ⊎ Memᴰ z (without_first fits xs) → (Memᴰ z (without_first fits xs) → Memᴰ z xs) → Memᴰ z (x ∷ xs)
      later (inl e) below = Memᴰ.head e
      later (inr k) below = Memᴰ.tail (below k)

      go : (b : Bool) → Memᴰ z (cond b xs (x ∷ without_first fits xs)) → (Memᴰ z (without_first fits xs) → Memᴰ z xs)
          → Memᴰ z (x ∷ xs)
      go true k below = Memᴰ.tail k
      go false k below = later (Memᴰ.cases_cons k) below

  -- one goes, or none does
  pub length_without : (l : List A) → length (without_first fits l) + cond (any_of fits l) 1 0 ≡ length l
  length_without [] = refl
  length_without (x ∷ xs) = go (fits x) (length_without xs)
    where
      go : (b : Bool) → length (without_first fits xs) + cond (any_of fits xs) 1 0 ≡ length xs
          → length (cond b xs (x ∷ without_first fits xs)) + cond (cond b true (any_of fits xs)) 1 0 ≡ suc (length xs)
      go true ih = omega arith
      go false ih = omega arith

  -- what was inserted goes, where it is the only one that fits
  pub without_inserted : (before : A → Bool) (y : A) (l : List A) → fits y ≡ true → ((x : A) → Memᴰ x l → fits x ≡ false)
      → without_first fits (insert_before before y l) ≡ l
  without_inserted before y [] t h = rw t
  without_inserted before y (x ∷ xs) t h =
      go (before x) (h x (Memᴰ.head refl)) (without_inserted before y xs t (λ z m. h z (Memᴰ.tail m)))
    where
      go : (b : Bool) → fits x ≡ false → without_first fits (insert_before before y xs) ≡ xs
          → without_first fits (cond b (y ∷ x ∷ xs) (x ∷ insert_before before y xs)) ≡ x ∷ xs
      go true e ih = rw t
      go false e ih = rw e (ap (◌∷◌ x) ih)

-- Two tests of which no element meets both: either first element may go first, and one that fits is there after the other as before.
module _ {A : Type 0} (f g : A → Bool) (differ : (x : A) → f x ≡ true → g x ≡ true → ⊥) where
  pub without_comm : (l : List A) → without_first f (without_first g l) ≡ without_first g (without_first f l)
  without_comm [] = refl
  without_comm (x ∷ xs) = go (f x) (g x) refl refl (without_comm xs)
    where
      go : (a b : Bool) → f x ≡ a → g x ≡ b → without_first f (without_first g xs) ≡ without_first g (without_first f xs)
          → without_first f (cond b xs (x ∷ without_first g xs)) ≡ without_first g (cond a xs (x ∷ without_first f xs))
      go true true e k ih = absurd (differ x e k)
      go true false e k ih = rw e
      go false true e k ih = rw k
      go false false e k ih = rw (e, k) (ap (◌∷◌ x) ih)

  pub any_without : (l : List A) → any_of f (without_first g l) ≡ any_of f l
  any_without [] = refl
  any_without (x ∷ xs) = go (f x) (g x) refl refl (any_without xs)
    where
      go : (a b : Bool) → f x ≡ a → g x ≡ b → any_of f (without_first g xs) ≡ any_of f xs
          → any_of f (cond b xs (x ∷ without_first g xs)) ≡ cond a true (any_of f xs)
      go true true e k ih = absurd (differ x e k)
      go true false e k ih = rw e
      go false true e k ih = refl
      go false false e k ih = rw e ih

-- An ascending list stays so.
module _ {A : Type 0} (key : A → ℕ) (fits : A → Bool) where
  ascending_lower : (low high : ℕ) (l : List A) → low ≤ high → Ascending key high l → Ascending key low l
  ascending_lower low high [] h a = tt
  ascending_lower low high (x ∷ xs) h a = (omega (arith, a.0), a.1)

  pub without_ascending : (low : ℕ) (l : List A) → Ascending key low l → Ascending key low (without_first fits l)
  without_ascending low [] a = tt
  without_ascending low (x ∷ xs) a = go (fits x) (without_ascending (key x) xs a.1)
    where
      go : (b : Bool) → Ascending key (key x) (without_first fits xs) → Ascending key low (cond b xs (x ∷ without_first fits xs))
      go true ih = ascending_lower low (key x) xs a.0 a.1
      go false ih = (a.0, ih)

-- Sorting by a key.
module _ {A : Type 0} (key : A → ℕ) where
  sort_middle : (before : List A) (x : A) (after : List A) → ((y : A) → Memᴰ y after → key y ≡ key x → ⊥)
      → sort_by key (before ++ (x ∷ after)) ≡ insert_by key x (sort_by key (before ++ after))
  sort_middle before x after h =
      foldl-append (λ s y. insert_by key y s) [] before (x ∷ after)
      ∙ insert_later key x (sort_by key before) after h
      ∙ ap (insert_by key x) (sym (foldl-append (λ s y. insert_by key y s) [] before after))

  -- the sorted list without its first that fits is the list without it, sorted, where it is the only one that fits and its key the only one
  pub sorted_without : (fits : A → Bool) (l : List A)
      → ((x : A) (f : FirstFit fits l x) → (y : A) → Memᴰ y (f.before ++ f.after) → (fits y ≡ false) × (key y ≡ key x → ⊥))
      → sort_by key (without_first fits l) ≡ without_first fits (sort_by key l)
  sorted_without fits l alone = go (first_or_none fits l)
    where
      go : ((x : A) × FirstFit fits l x) ⊎ ((x : A) → Memᴰ x l → fits x ≡ false)
          → sort_by key (without_first fits l) ≡ without_first fits (sort_by key l)
      go (inl (x, f)) =
          let rest = f.before ++ f.after in
          ap (sort_by key) (without_first_lem fits l x f)
          ∙ sym (ap (without_first fits) (ap (sort_by key) f.parts
          ∙ sort_middle f.before x f.after (λ y m. (alone x f y (Memᴰ.append_right f.before m)).1))
          ∙ without_inserted fits _ x (sort_by key rest) f.here
          (perm_member (sort_perm key rest) (λ y. fits y ≡ false) (λ y m. (alone x f y m).0)))
      go (inr h) =
          ap (sort_by key) (without_none fits l h)
          ∙ sym (without_none fits (sort_by key l) (perm_member (sort_perm key l) (λ y. fits y ≡ false) h))

-- Records in the first places of an array: they are those held by their number, and there are as many places as before.
module _ {A : Type 0} (records l : List A) where
  held_places : (limit : ℕ) → length records ≤ limit → held limit (length records) (in_first_places records l) ≡ records
  unfolding in_first_places
  held_places limit h =
      held_within limit (length records) (in_first_places records l) h
      ∙ take_at records (drop (length records) l) (length records) refl

  length_places : length records ≤ length l → length (in_first_places records l) ≡ length l
  unfolding in_first_places
  length_places h = rw (length-append, length-drop) (omega arith)

-- the others are kept, in their order
without_at : {A : Type 0} (fits : A → Bool) (k : List A) → without_first fits k ≡ take (first_index fits k) k ++ drop (suc (first_index fits k)) k
without_at fits [] = refl
without_at fits (x ∷ xs) = go (fits x) (without_at fits xs)
  where
    go : (b : Bool) → without_first fits xs ≡ take (first_index fits xs) xs ++ drop (suc (first_index fits xs)) xs
        → cond b xs (x ∷ without_first fits xs) ≡ take (cond b 0 (suc (first_index fits xs))) (x ∷ xs) ++ drop (suc (cond b 0 (suc (first_index fits xs)))) (x ∷ xs)
    go true e = refl
    go false e = ap (◌∷◌ x) e

-- An array, of which some records are held, and the first of these that fits.
module _ {A : Type 0} (fits : A → Bool) (limit count : ℕ) (l : List A) (places : limit ≤ length l) where
  abbrev left : List A
  left = without_first fits (held limit count l)

  abbrev place : ℕ
  place = first_index fits (held limit count l)

  -- those left are no more than were held
  pub left_within : length left ≤ min count limit
  left_within = omega (arith, length_without fits (held limit count l), length-held limit count l places)

  -- in the first places they are those held by their number
  pub left-held : held limit (length left) (in_first_places left l) ≡ left
  left-held = held_places left l limit (omega (arith, left_within))

  -- there are as many places as before
  pub left_places : length (in_first_places left l) ≡ length l
  left_places = length_places left l (omega (arith, left_within))

  -- where one fits, the array loses it
  pub left_loses : any_of fits (held limit count l) ≡ true → Loses fits limit count l (length left) (in_first_places left l)
  left_loses e =
      let w = any_loses fits (held limit count l) e in
      record { first = (w.0, w.1, left-held ∙ w.2); counted = ap length (sym left-held); places = left_places }

  -- one fits exactly where its place is below the number of those held
  pub held_at : any_of fits (held limit count l) ≡ ltb place (min count limit)
  held_at = any_at fits (held limit count l) ∙ ap (ltb place) (length-held limit count l places)

  -- then those left are one fewer, and the array is without its place
  module _ (h : place < min count limit) where
    pub one_fewer : length left ≡ min count limit - 1
    one_fewer =
        let n : length left + 1 ≡ length (held limit count l) = rw (held_at ∙ lt-ltb _ _ h) at (length_without fits (held limit count l)) in
        omega (arith, length-held limit count l places)

    pub remove_place : in_first_places left l ≡ remove_at l (min count limit) place
    unfolding in_first_places remove_at held
    remove_place =
        let n : ℕ = min count limit in
        let k : place ≤ n = omega arith in
        rw (one_fewer, without_at fits (take n l), take-take place n l, append_assoc, add-one)

-- to remove at place `i` is to store there what stands one place further, and to remove there
pub remove_step : {A : Type 0} (l : List A) (n i : ℕ) (d : A) → i + 1 < n → n ≤ length l
    → remove_at l n i ≡ remove_at (set l i (get_or l (i + 1) d)) n (i + 1)
unfolding remove_at
remove_step l n i d h k =
    let x = get_or l (i + 1) d in
    let s : i < length l = omega arith in
    rw (
      drop_step l n (i + 1) d h k,
      drop-set-lt (n - 1) l i x (omega arith),
      take-set-lt n l i x (omega arith),
      drop-set-lt (i + 1 + 1) (take n l) i x (omega arith),
      add-one i,
      take-suc-set l i (get_or l (suc i) d) s,
      append_assoc,
    )

-- to remove the last of the first `n` is to leave all places as they are
pub remove_last : {A : Type 0} (l : List A) (n : ℕ) → 0 < n → n ≤ length l → remove_at l n (n - 1) ≡ l
unfolding remove_at
remove_last l n h k = rw (drop-done l n (n - 1 + 1) (omega arith)) (take-append-drop (n - 1) l)

-- What every element has, every element of the list without its first that fits has.
every_without : {A : Type 0} (P : A → Type 0) (fits : A → Bool) (l : List A) → Every P l → Every P (without_first fits l)
every_without P fits [] h = tt
every_without P fits (x ∷ l) h =
    cond_all (Every P) (fits x) l (x ∷ without_first fits l) h.1 (h.0, every_without P fits l h.1)

-- so has every record of an array without the first held that fits
pub every_left : {A : Type 0} (P : A → Type 0) (fits : A → Bool) (limit count : ℕ) (l : List A) → Every P l
    → Every P (in_first_places (without_first fits (held limit count l)) l)
unfolding in_first_places held
every_left P fits limit count l h =
    let left = without_first fits (take (min count limit) l) in
    every_append P left (drop (length left) l) (every_without P fits (take (min count limit) l) (every_take P (min count limit) l h))
    (every_drop P (length left) l h)
