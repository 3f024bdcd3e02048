-- What every element of a list has, every element of a list that is made from it has. Assumes nothing.
use Prim.Native.Nat.{ℕ, zero, suc, ◌≤◌}
use mathlib.Core.Bool.{Bool}
use mathlib.Core.Path.{refl}
use mathlib.Core.List.{List, [], ◌∷◌, ◌++◌, Memᴰ}
use native.Mathlib.Omega.{arith}
use lib.ListN.{length, set, take, drop}
use Rattle.lists.specs.Lists.{replace_first, insert_before}
use Rattle.lists.proofs.Laws.{cond_all}

abbrev pub Every : {A : Type 0} → (A → Type 0) → List A → Type 0
Every P [] = Unit {0}
Every P (x ∷ xs) = P x × Every P xs

module _ {A : Type 0} (P : A → Type 0) where
  -- what all members have
  pub all_every : (l : List A) → ((x : A) → Memᴰ x l → P x) → Every P l
  all_every [] h = tt
  all_every (x ∷ l) h = (h x (Memᴰ.head refl), all_every l (λ y m. h y (Memᴰ.tail m)))

  pub every_append : (l m : List A) → Every P l → Every P m → Every P (l ++ m)
  every_append [] m h k = k
  every_append (x ∷ l) m h k = (h.0, every_append l m h.1 k)

  pub every_take : (n : ℕ) (l : List A) → Every P l → Every P (take n l)
  every_take zero l h = tt
  every_take (suc n) [] h = tt
  every_take (suc n) (x ∷ l) h = (h.0, every_take n l h.1)

  pub every_drop : (n : ℕ) (l : List A) → Every P l → Every P (drop n l)
  every_drop zero l h = h
  every_drop (suc n) [] h = tt
  every_drop (suc n) (x ∷ l) h = every_drop n l h.1

  pub every_set : (l : List A) (i : ℕ) (y : A) → Every P l → P y → Every P (set l i y)
  every_set [] i y h p = tt
  every_set (x ∷ l) zero y h p = (p, h.1)
  every_set (x ∷ l) (suc i) y h p = (h.0, every_set l i y h.1 p)

  pub every_replace : (fits : A → Bool) (y : A) (l : List A) → Every P l → P y → Every P (replace_first fits y l)
  every_replace fits y [] h p = tt
  every_replace fits y (x ∷ l) h p =
      cond_all (Every P) (fits x) (y ∷ l) (x ∷ replace_first fits y l) (p, h.1) (h.0, every_replace fits y l h.1 p)

  pub every_insert : (fits : A → Bool) (y : A) (l : List A) → Every P l → P y → Every P (insert_before fits y l)
  every_insert fits y [] h p = (p, tt)
  every_insert fits y (x ∷ l) h p =
      cond_all (Every P) (fits x) (y ∷ x ∷ l) (x ∷ insert_before fits y l) (p, h) (h.0, every_insert fits y l h.1 p)

-- the first of some elements are no more than asked
pub take_short : {A : Type 0} (n : ℕ) (l : List A) → length (take n l) ≤ n
take_short zero l = omega arith
take_short (suc n) [] = omega arith
take_short (suc n) (x ∷ l) = omega (arith, take_short n l)
