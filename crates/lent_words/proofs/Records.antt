-- Laws of records that stand in words: what was written is read, and what stands elsewhere is as it was. Assumes nothing.
use Prim.Native.Nat.{ℕ, zero, suc, ◌+◌, ◌*◌, ◌<◌, ◌≤◌}
use mathlib.Core.Path.{◌≡◌, refl, sym, ap, ◌∙◌}
use mathlib.Core.List.{List, ◌∷◌}
use native.Mathlib.Omega.{arith}
use native.Mathlib.Nat.{add-zero}
use lib.ListN.{length, set, take, drop, replicate}
use lib.Seq.{take-nil, drop-nil}
use Rattle.lists.proofs.Laws.{cond_same}
use Rattle.lent_words.specs.Words.{of_bytes, has_word, word_at, each, words_at, with_words, FitsWord}
use Rattle.lent_words.proofs.Words.{each_same}
use Rattle.lent_words.proofs.RoundTrip.{Every, words_beside, words_back}

-- What is read of the bytes is what `from` makes of the `n` words from `at` on.
pub record InWords {A : Type 0} (get : List ℕ → A) (from : List ℕ → A) (at n : ℕ) : Type 0 where
  pub reads : (c : List ℕ) → get c ≡ from (words_at c at n)

-- Words that are written, there or elsewhere.
module _ {A : Type 0} {get from : List ℕ → A} {at n : ℕ} (stands : InWords get from at n) (b : List ℕ) where
  -- those written there are read
  pub record_written : (ws : List ℕ) → length ws ≡ n → 8 * (at + n) ≤ length b → Every FitsWord ws → get (with_words b at ws) ≡ from ws
  record_written ws e room fits =
      stands.reads (with_words b at ws) ∙ ap from (ap (words_at (with_words b at ws) at) (sym e) ∙ words_back b at ws (omega arith) fits)

  -- those written elsewhere change nothing
  pub record_kept : (to : ℕ) (ws : List ℕ) → ((i j : ℕ) → i < n → j < length ws → to + j ≡ at + i → ⊥) → get (with_words b to ws) ≡ get b
  record_kept to ws apart = stands.reads (with_words b to ws) ∙ ap from same ∙ sym (stands.reads b)
    where
      same : words_at (with_words b to ws) at n ≡ words_at b at n
      same =
          each_same (λ i. word_at (with_words b to ws) (at + i)) (λ i. word_at b (at + i)) 0 n
          (λ i l u. words_beside b to ws (at + i) (λ j. apart i j (omega arith)))

-- the number of a part of zero bytes is zero
zero_part : (n k m : ℕ) → of_bytes (take m (drop k (replicate n 0))) ≡ 0
zero_part zero k m = rw (drop-nil {A = ℕ} k, take-nil {A = ℕ} m)
zero_part (suc n) (suc k) m = zero_part n k m
zero_part (suc n) zero zero = refl
zero_part (suc n) zero (suc m) = rw (zero_part n zero m)

-- every word of zero bytes is zero
pub zero_word : (n i : ℕ) → word_at (replicate n 0) i ≡ 0
unfolding word_at
zero_word n i = rw (zero_part n (8 * i) 8) (cond_same (has_word (replicate n 0) i) 0)

-- places that all hold the same
pub each_constant : {A : Type 0} (f : ℕ → A) (a : A) → ((i : ℕ) → f i ≡ a) → (k n : ℕ) → each f k n ≡ replicate n a
each_constant f a h k zero = refl
each_constant f a h k (suc n) = λ i. h k i ∷ each_constant f a h (suc k) n i

-- a record of zero bytes is what zero words make
pub zero_record : {A : Type 0} {get from : List ℕ → A} {at n : ℕ} → InWords get from at n → (m : ℕ) → get (replicate m 0) ≡ from (replicate n 0)
zero_record {A} {get} {from} {at} {n} stands m =
    stands.reads (replicate m 0) ∙ ap from (each_constant (λ j. word_at (replicate m 0) (at + j)) 0 (λ j. zero_word m (at + j)) 0 n)

-- an array of records is as it was where other words are written
pub array_kept : {A : Type 0} {get : List ℕ → ℕ → A} {from : List ℕ → A} {place : ℕ → ℕ} {n : ℕ} → ((k : ℕ) → InWords (λ c. get c k) from (place k) n)
    → (b : List ℕ) (to : ℕ) (ws : List ℕ) (limit : ℕ) → ((k i j : ℕ) → k < limit → i < n → j < length ws → to + j ≡ place k + i → ⊥)
    → each (get (with_words b to ws)) 0 limit ≡ each (get b) 0 limit
array_kept {A} {get} stands b to ws limit apart =
    each_same (get (with_words b to ws)) (get b) 0 limit (λ k l u. record_kept (stands k) b to ws (λ i j. apart k i j (omega arith)))

-- an array with another element at one place
pub each_set : {A : Type 0} (f g : ℕ → A) (x : A) (k n i : ℕ) → i < n → g (k + i) ≡ x → ((j : ℕ) → (k + i ≡ j → ⊥) → g j ≡ f j)
    → each g k n ≡ set (each f k n) i x
each_set f g x k zero i l same other = absurd (omega arith)
each_set f g x k (suc n) zero l same other =
    rw (sym (ap g (add-zero k)) ∙ same, each_same g f (suc k) n (λ j a b. other j (omega arith)))
each_set f g x k (suc n) (suc i) l same other =
    let e : k + suc i ≡ suc k + i = omega arith in
    rw (other k (omega arith), each_set f g x (suc k) n i (omega arith) (ap g (sym e) ∙ same) (λ j d. other j (omega arith)))
