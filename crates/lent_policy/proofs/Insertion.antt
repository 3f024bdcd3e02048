-- Laws of an insertion in place, over records that stand at places of lent bytes: one is stored, and those from its place on one place further. Assumes
-- nothing.
use Prim.Native.Nat.{ℕ, zero, suc, ◌+◌, ◌-◌, ◌<◌, ◌≤◌}
use mathlib.Core.Path.{◌≡◌, refl, sym, ap, ◌∙◌}
use mathlib.Core.List.{List, [], ◌∷◌, ◌++◌}
use native.Mathlib.Omega.{arith}
use native.Mathlib.Nat.{add-zero, zero-add}
use lib.ListN.{length, take, drop}
use Rattle.lists.specs.Lists.{insert_at}
use Rattle.lent_words.specs.Words.{each, store_each}
use Rattle.lent_words.proofs.Words.{length-each, each_same, store_append}
use Rattle.lent_words.proofs.RoundTrip.{store_stays, store_keeps}
use Rattle.lent_words.proofs.InPlace.{store_kept}

-- A part of what stands at places.
module _ {A : Type 0} (f : ℕ → A) where
  pub take-each : (k n i : ℕ) → i ≤ n → take i (each f k n) ≡ each f k i
  take-each k n zero h = refl
  take-each k zero (suc i) h = absurd (omega arith)
  take-each k (suc n) (suc i) h = ap (◌∷◌ (f k)) (take-each (suc k) n i (omega arith))

  pub drop-each : (k n i : ℕ) → i ≤ n → drop i (each f k n) ≡ each f (k + i) (n - i)
  drop-each k n zero h =
      let z : n - 0 ≡ n = omega arith in
      rw (add-zero k, z)
  drop-each k zero (suc i) h = absurd (omega arith)
  drop-each k (suc n) (suc i) h =
      let e : suc k + i ≡ k + suc i = omega arith in
      let m : n - i ≡ suc n - suc i = omega arith in
      drop-each (suc k) n i (omega arith) ∙ rw (e, m)

-- the bytes with what stands from place `i` up to place `n` one place further
abbrev pub shifted : {A : Type 0} → (List ℕ → ℕ → A) → (List ℕ → ℕ → A → List ℕ) → ℕ → List ℕ → ℕ → List ℕ
shifted get put n b i = store_each put b (suc i) (each (get b) i (n - i))

-- Places of an array, where to store what stands at a place changes nothing, and no store changes another place, in whatever order.
module _ {A : Type 0} (get : List ℕ → ℕ → A) (put : List ℕ → ℕ → A → List ℕ) (Good : List ℕ → Type 0)
    (stays : (b : List ℕ) (k : ℕ) (x : A) → Good b → Good (put b k x))
    (same : (b : List ℕ) (k : ℕ) → Good b → put b k (get b k) ≡ b)
    (other : (b : List ℕ) (k : ℕ) (x : A) (i : ℕ) → (k ≡ i → ⊥) → get (put b k x) i ≡ get b i)
    (comm : (b : List ℕ) (i : ℕ) (x : A) (j : ℕ) (y : A) → (i ≡ j → ⊥) → put (put b i x) j y ≡ put (put b j y) i x)
    (n : ℕ) (b : List ℕ) where
  -- to store at a place below others is to store there first
  put_first : (xs : List A) (c : List ℕ) (i : ℕ) (x : A) (k : ℕ) → i < k → put (store_each put c k xs) i x ≡ store_each put (put c i x) k xs
  put_first [] c i x k h = refl
  put_first (y ∷ ys) c i x k h =
      put_first ys (put c k y) i x (suc k) (omega arith) ∙ ap (λ (d : List ℕ). store_each put d (suc k) ys) (comm c k y i x (omega arith))

  -- past the last nothing is moved
  pub shift_none : shifted get put n b n ≡ b
  shift_none =
      let e : n - n ≡ 0 = omega arith in
      rw e

  -- to move one more is to store it one place further
  pub shift_step : (k : ℕ) → 0 < k → k ≤ n → put (shifted get put n b k) k (get (shifted get put n b k) (k - 1)) ≡ shifted get put n b (k - 1)
  shift_step zero l h = absurd (omega arith)
  shift_step (suc i) l h =
      let z : suc i - 1 ≡ i = omega arith in
      let xs : List A = each (get b) (suc i) (n - suc i) in
      let e : n - i ≡ suc (n - suc i) = omega arith in
      let stood : get (store_each put b (suc (suc i)) xs) i ≡ get b i =
      store_keeps put (λ c. get c i) xs b (suc (suc i)) (λ c j x a u. other c j x i (omega arith)) in
      rw (z, e) (ap (put (store_each put b (suc (suc i)) xs) (suc i)) stood ∙ put_first xs b (suc i) (get b i) (suc (suc i)) (omega arith))

  -- with the new one below them this is the array with an insertion, stored
  pub shift_done : (limit i : ℕ) (x : A) → i ≤ n → n < limit → Good b
      → put (shifted get put n b i) i x ≡ store_each put b 0 (insert_at (each (get b) 0 limit) n i x)
  unfolding insert_at
  shift_done limit i x h room good =
      let xs : List A = x ∷ each (get b) i (n - i) in
      let m : ℕ = limit - (n + 1) in
      let c : List ℕ = store_each put b i xs in
      let rest : List A = xs ++ each (get b) (n + 1) m in
      let low : 0 + length (each (get b) 0 i) ≡ i = zero-add (length (each (get b) 0 i)) ∙ length-each (get b) 0 i in
      let high : i + length xs ≡ n + 1 = omega (arith, length-each (get b) i (n - i)) in
      let above : each (get b) (n + 1) m ≡ each (get c) (n + 1) m =
      each_same (get b) (get c) (n + 1) m (λ j l u. sym (store_keeps put (λ d. get d j) xs b i (λ d k y a o. other d k y j (omega (arith, high))))) in
      put_first (each (get b) i (n - i)) b i x (suc i) (omega arith)
      ∙ sym
      (rw (
        take-each (get b) 0 limit i (omega arith),
        take-each (get b) 0 limit n (omega arith),
        drop-each (get b) 0 n i h,
        drop-each (get b) 0 limit (n + 1) (omega arith),
        zero-add i,
        zero-add (n + 1),
      )
      (store_append put b 0 (each (get b) 0 i) rest
      ∙ ap (λ (j : ℕ). store_each put (store_each put b 0 (each (get b) 0 i)) j rest) low
      ∙ ap (λ (d : List ℕ). store_each put d i rest) (store_kept get put Good stays same other b 0 i good)
      ∙ store_append put b i xs (each (get b) (n + 1) m)
      ∙ ap (λ (j : ℕ). store_each put c j (each (get b) (n + 1) m)) high
      ∙ ap (store_each put c (n + 1)) above
      ∙ store_kept get put Good stays same other c (n + 1) m (store_stays put Good stays xs b i good)))
