-- Laws of a removal in place, over records that stand at places of lent bytes: those after one are stored one place sooner. Assumes nothing.
use Prim.Native.Nat.{ℕ, suc, ◌+◌, ◌-◌, ◌<◌, ◌≤◌}
use mathlib.Core.Path.{◌≡◌, sym, ap, ◌∙◌}
use mathlib.Core.List.{List, [], ◌∷◌, ◌++◌}
use native.Mathlib.Omega.{arith}
use native.Mathlib.Nat.{zero-add}
use native.Mathlib.Numerals.{add-one}
use lib.ListN.{length}
use Rattle.lists.specs.Lists.{remove_at}
use Rattle.lent_words.specs.Words.{each, store_each, Lent}
use Rattle.lent_words.proofs.Words.{length-each, each_snoc, each_same, store_append}
use Rattle.lent_words.proofs.RoundTrip.{store_stays, store_keeps}
use Rattle.lent_words.proofs.InPlace.{store_kept}
use Rattle.lent_policy.specs.Layout.{policy_size}
use Rattle.lent_policy.proofs.Insertion.{take-each, drop-each}

-- An array in lent bytes: to store what stands at a place changes nothing, and no store changes another place.
pub record InBytes (A : Type 0) : Type 0 where
  pub get : List ℕ → ℕ → A
  pub put : List ℕ → ℕ → A → List ℕ
  pub stays : (b : List ℕ) (k : ℕ) (x : A) → Lent policy_size b → Lent policy_size (put b k x)
  pub same : (b : List ℕ) (k : ℕ) → Lent policy_size b → put b k (get b k) ≡ b
  pub other : (b : List ℕ) (k : ℕ) (x : A) (i : ℕ) → (k ≡ i → ⊥) → get (put b k x) i ≡ get b i

-- the bytes with what stands after place `at`, up to place `i`, one place sooner
abbrev pub closed : {A : Type 0} → InBytes A → List ℕ → ℕ → ℕ → List ℕ
closed array b at i = store_each array.put b at (each (array.get b) (suc at) (i - at))

module _ {A : Type 0} (array : InBytes A) (b : List ℕ) (at : ℕ) where
  abbrev get : List ℕ → ℕ → A
  get = array.get

  abbrev put : List ℕ → ℕ → A → List ℕ
  put = array.put

  -- before the first nothing is moved
  pub close_none : closed array b at at ≡ b
  close_none =
      let e : at - at ≡ 0 = omega arith in
      rw e

  -- a place past those that were moved is as it was
  close_past : (i j : ℕ) → at ≤ i → i ≤ j → get (closed array b at i) j ≡ get b j
  close_past i j h k =
      store_keeps put (λ c. get c j) (each (get b) (suc at) (i - at)) b at
      (λ c m x l u. array.other c m x j (omega (arith, length-each (get b) (suc at) (i - at))))

  -- to move one more is to store it one place sooner
  pub close_step : (i : ℕ) → at ≤ i → put (closed array b at i) i (get (closed array b at i) (i + 1)) ≡ closed array b at (i + 1)
  close_step i h =
      let xs : List A = each (get b) (suc at) (i - at) in
      let more : (i + 1) - at ≡ suc (i - at) = omega arith in
      let next : suc at + (i - at) ≡ i + 1 = omega arith in
      let here : at + length xs ≡ i = omega (arith, length-each (get b) (suc at) (i - at)) in
      ap (put (closed array b at i) i) (close_past i (i + 1) h (omega arith))
      ∙ sym
      (rw (more, each_snoc (get b) (suc at) (i - at), next)
      (store_append put b at xs (get b (i + 1) ∷ [])
      ∙ ap (λ (j : ℕ). put (closed array b at i) j (get b (i + 1))) here))

  -- with the last of `n` moved, this is the array with a removal, stored
  pub close_done : (limit n : ℕ) → at < n → n ≤ limit → Lent policy_size b
      → closed array b at (n - 1) ≡ store_each put b 0 (remove_at (each (get b) 0 limit) n at)
  unfolding remove_at
  close_done limit n h room lent =
      let xs : List A = each (get b) (suc at) (n - 1 - at) in
      let c : List ℕ = closed array b at (n - 1) in
      let m : ℕ = limit - (n - 1) in
      let rest : List A = xs ++ each (get b) (n - 1) m in
      let low : 0 + length (each (get b) 0 at) ≡ at = zero-add (length (each (get b) 0 at)) ∙ length-each (get b) 0 at in
      let high : at + length xs ≡ n - 1 = omega (arith, length-each (get b) (suc at) (n - 1 - at)) in
      let fewer : n - (at + 1) ≡ n - 1 - at = omega arith in
      let above : each (get b) (n - 1) m ≡ each (get c) (n - 1) m =
      each_same (get b) (get c) (n - 1) m (λ j l u. sym (close_past (n - 1) j (omega arith) l)) in
      sym
      (rw (
        take-each (get b) 0 limit at (omega arith),
        take-each (get b) 0 limit n room,
        drop-each (get b) 0 n (at + 1) (omega arith),
        drop-each (get b) 0 limit (n - 1) (omega arith),
        zero-add (at + 1),
        zero-add (n - 1),
        fewer,
        add-one at,
      )
      (store_append put b 0 (each (get b) 0 at) rest
      ∙ ap (λ (j : ℕ). store_each put (store_each put b 0 (each (get b) 0 at)) j rest) low
      ∙ ap (λ (d : List ℕ). store_each put d at rest) (store_kept get put (Lent policy_size) array.stays array.same array.other b 0 at lent)
      ∙ store_append put b at xs (each (get b) (n - 1) m)
      ∙ ap (λ (j : ℕ). store_each put c j (each (get b) (n - 1) m)) high
      ∙ ap (store_each put c (n - 1)) above
      ∙ store_kept get put (Lent policy_size) array.stays array.same array.other c (n - 1) m (store_stays put (Lent policy_size) array.stays xs b at lent)))
