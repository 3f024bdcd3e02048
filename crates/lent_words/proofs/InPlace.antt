-- Laws of stores in place: to store what stands there changes nothing, so that an array of which one element differs is stored by one store.
-- Assumes nothing.
use Prim.Native.Nat.{ℕ, zero, suc, ◌+◌, ◌*◌, ◌/◌, ◌%◌, ◌<◌, ◌≤◌}
use mathlib.Core.Path.{◌≡◌, refl, sym, ap, ◌∙◌}
use mathlib.Core.Bool.{Bool, true, false}
use mathlib.Core.Logic.{◌⊎◌, inl, inr}
use mathlib.Core.List.{List, [], ◌∷◌, append_assoc}
use native.Mathlib.Omega.{arith}
use native.Mathlib.Nat.{add-zero, zero-add}
use lib.Dec.{leb, ltb}
use borrow.Author.Tests.{leb-true, leb-false, ltb-true, ltb-false}
use lib.ListN.{length, set, take, drop, take-append-drop, length-drop}
use lib.Seq.{sets, sets-eq, set-set, set_comm, drop-drop, get_or-drop}
use Rattle.lent_words.specs.Words.{of_bytes, to_bytes, word_at, with_word, each, store_each, words_at, with_words, Bytes}
use Rattle.lent_words.proofs.Words.{length_to, each_same, word_stored, word_kept, word_read, length-word}

-- the bytes of the number of some bytes are those bytes
to_of : (n : ℕ) (l : List ℕ) → Bytes l → n ≤ length l → to_bytes n (of_bytes (take n l)) ≡ take n l
to_of zero l h room = refl
to_of (suc n) [] h room = absurd (omega arith)
to_of (suc n) (x ∷ l) h room =
    let low : (x + 256 * of_bytes (take n l)) % 256 ≡ x = omega (arith, h 0) in
    let high : (x + 256 * of_bytes (take n l)) / 256 ≡ of_bytes (take n l) = omega (arith, h 0) in
    rw (low, high, to_of n l (λ i. h (suc i)) (omega arith))

-- to store the word that stands there changes nothing
pub word_rewritten : (b : List ℕ) (i : ℕ) → Bytes b → with_word b i (word_at b i) ≡ b
word_rewritten b i h = go (leb (8 * i + 8) (length b)) refl
  where
    go : (t : Bool) → leb (8 * i + 8) (length b) ≡ t → with_word b i (word_at b i) ≡ b
    go false e = word_kept b i (word_at b i) (omega (arith, leb-false (8 * i + 8) (length b) e))
    go true e =
        let room : 8 * i + 8 ≤ length b = leb-true (8 * i + 8) (length b) e in
        let same : to_bytes 8 (word_at b i) ≡ take 8 (drop (8 * i) b) =
        ap (to_bytes 8) (word_read b i room) ∙ to_of 8 (drop (8 * i) b) (λ j. rw (get_or-drop (8 * i) b j 0) (h (8 * i + j))) (omega (arith, length-drop (8 * i) b)) in
        word_stored b i (word_at b i) room
        ∙ sets-eq (to_bytes 8 (word_at b i)) b (8 * i) (omega (arith, length_to 8 (word_at b i)))
        ∙ rw (length_to 8 (word_at b i), same, ← drop-drop 8 (8 * i) b, append_assoc (take (8 * i) b) (take 8 (drop (8 * i) b)) (drop 8 (drop (8 * i) b)), take-append-drop 8 (drop (8 * i) b), take-append-drop (8 * i) b)

-- Places of an array, where to store what stands at a place changes nothing, and no store changes another place.
module _ {A : Type 0} (get : List ℕ → ℕ → A) (put : List ℕ → ℕ → A → List ℕ) (Good : List ℕ → Type 0)
    (stays : (b : List ℕ) (k : ℕ) (x : A) → Good b → Good (put b k x))
    (same : (b : List ℕ) (k : ℕ) → Good b → put b k (get b k) ≡ b)
    (other : (b : List ℕ) (k : ℕ) (x : A) (i : ℕ) → (k ≡ i → ⊥) → get (put b k x) i ≡ get b i) where
  -- to store what stands at places from `k` on changes nothing
  pub store_kept : (b : List ℕ) (k n : ℕ) → Good b → store_each put b k (each (get b) k n) ≡ b
  store_kept b k zero good = refl
  store_kept b k (suc n) good = ap (λ (c : List ℕ). store_each put c (suc k) (each (get b) (suc k) n)) (same b k good) ∙ store_kept b (suc k) n good

  -- nor does it where another place was stored before
  pub store_past : (b : List ℕ) (i : ℕ) (x : A) (k n : ℕ) → i < k → Good b → store_each put (put b i x) k (each (get b) k n) ≡ put b i x
  store_past b i x k n h good =
      ap (store_each put (put b i x) k) (each_same (get b) (get (put b i x)) k n (λ j l u. sym (other b i x j (omega arith))))
      ∙ store_kept (put b i x) k n (stays b i x good)

  -- an array of which one element differs is stored by one store
  pub one_stored : (b : List ℕ) (k n i : ℕ) (x : A) → i < n → Good b → store_each put b k (set (each (get b) k n) i x) ≡ put b (k + i) x
  one_stored b k zero i x h good = absurd (omega arith)
  one_stored b k (suc n) zero x h good = rw (add-zero k) (store_past b k x (suc k) n (omega arith) good)
  one_stored b k (suc n) (suc i) x h good =
      let e : k + suc i ≡ suc k + i = omega arith in
      ap (λ (c : List ℕ). store_each put c (suc k) (set (each (get b) (suc k) n) i x)) (same b k good)
      ∙ one_stored b (suc k) n i x (omega arith) good
      ∙ ap (λ (j : ℕ). put b j x) (sym e)

-- Stores of some elements one after the other, and of others, that lie apart.
module _ {A : Type 0} where
  set_sets : (vs l : List A) (k i : ℕ) (a : A) → (i < k) ⊎ (k + length vs ≤ i) → sets (set l i a) k vs ≡ set (sets l k vs) i a
  set_sets [] l k i a h = refl
  set_sets (v ∷ vs) l k i a (inl h) = rw (set_comm l i k a v (omega arith)) (set_sets vs (set l k v) (suc k) i a (inl (omega arith)))
  set_sets (v ∷ vs) l k i a (inr h) = rw (set_comm l i k a v (omega arith)) (set_sets vs (set l k v) (suc k) i a (inr (omega arith)))

  sets_again : (vs ws l : List A) (k : ℕ) → length vs ≡ length ws → sets (sets l k vs) k ws ≡ sets l k ws
  sets_again [] [] l k e = refl
  sets_again [] (w ∷ ws) l k e = absurd (omega arith)
  sets_again (v ∷ vs) [] l k e = absurd (omega arith)
  sets_again (v ∷ vs) (w ∷ ws) l k e =
      rw (← set_sets vs (set l k v) (suc k) k w (inl (omega arith)), set-set l k v w) (sets_again vs ws (set l k w) (suc k) (omega arith))

  sets_comm : (vs ws l : List A) (i j : ℕ) → (i + length vs ≤ j) ⊎ (j + length ws ≤ i) → sets (sets l i vs) j ws ≡ sets (sets l j ws) i vs
  sets_comm [] ws l i j h = refl
  sets_comm (v ∷ vs) ws l i j (inl h) =
      sets_comm vs ws (set l i v) (suc i) j (inl (omega arith)) ∙ ap (λ (b : List A). sets b (suc i) vs) (set_sets ws l j i v (inl (omega arith)))
  sets_comm (v ∷ vs) ws l i j (inr h) =
      sets_comm vs ws (set l i v) (suc i) j (inr (omega arith)) ∙ ap (λ (b : List A). sets b (suc i) vs) (set_sets ws l j i v (inr (omega arith)))

-- the second of two stores at one place counts
pub word-again : (b : List ℕ) (i v w : ℕ) → with_word (with_word b i v) i w ≡ with_word b i w
word-again b i v w = go (leb (8 * i + 8) (length b)) refl
  where
    go : (t : Bool) → leb (8 * i + 8) (length b) ≡ t → with_word (with_word b i v) i w ≡ with_word b i w
    go false e = ap (λ (c : List ℕ). with_word c i w) (word_kept b i v (omega (arith, leb-false (8 * i + 8) (length b) e)))
    go true e =
        let room : 8 * i + 8 ≤ length b = leb-true (8 * i + 8) (length b) e in
        word_stored (with_word b i v) i w (omega (arith, length-word b i v))
        ∙ ap (λ (c : List ℕ). sets c (8 * i) (to_bytes 8 w)) (word_stored b i v room)
        ∙ sets_again (to_bytes 8 v) (to_bytes 8 w) b (8 * i) (length_to 8 v ∙ sym (length_to 8 w))
        ∙ sym (word_stored b i w room)

-- stores at two places, in either order
pub word_comm : (b : List ℕ) (i v j w : ℕ) → (i ≡ j → ⊥) → with_word (with_word b i v) j w ≡ with_word (with_word b j w) i v
word_comm b i v j w h = go (leb (8 * i + 8) (length b)) (leb (8 * j + 8) (length b)) refl refl
  where
    apart : (t : Bool) → ltb i j ≡ t → sets (sets b (8 * i) (to_bytes 8 v)) (8 * j) (to_bytes 8 w) ≡ sets (sets b (8 * j) (to_bytes 8 w)) (8 * i) (to_bytes 8 v)
    apart true e = sets_comm (to_bytes 8 v) (to_bytes 8 w) b (8 * i) (8 * j) (inl (omega (arith, ltb-true i j e, length_to 8 v)))
    apart false e = sets_comm (to_bytes 8 v) (to_bytes 8 w) b (8 * i) (8 * j) (inr (omega (arith, ltb-false i j e, length_to 8 w)))

    go : (s t : Bool) → leb (8 * i + 8) (length b) ≡ s → leb (8 * j + 8) (length b) ≡ t → with_word (with_word b i v) j w ≡ with_word (with_word b j w) i v
    go false t e f =
        ap (λ (c : List ℕ). with_word c j w) (word_kept b i v (omega (arith, leb-false (8 * i + 8) (length b) e)))
        ∙ sym (word_kept (with_word b j w) i v (omega (arith, leb-false (8 * i + 8) (length b) e, length-word b j w)))
    go true false e f =
        word_kept (with_word b i v) j w (omega (arith, leb-false (8 * j + 8) (length b) f, length-word b i v))
        ∙ ap (λ (c : List ℕ). with_word c i v) (sym (word_kept b j w (omega (arith, leb-false (8 * j + 8) (length b) f))))
    go true true e f =
        let at_i : 8 * i + 8 ≤ length b = leb-true (8 * i + 8) (length b) e in
        let at_j : 8 * j + 8 ≤ length b = leb-true (8 * j + 8) (length b) f in
        word_stored (with_word b i v) j w (omega (arith, length-word b i v))
        ∙ ap (λ (c : List ℕ). sets c (8 * j) (to_bytes 8 w)) (word_stored b i v at_i)
        ∙ apart (ltb i j) refl
        ∙ ap (λ (c : List ℕ). sets c (8 * i) (to_bytes 8 v)) (sym (word_stored b j w at_j))
        ∙ sym (word_stored (with_word b j w) i v (omega (arith, length-word b j w)))

-- Places of an array, where the second of two stores at one place counts, and stores at two places may change their order.
module _ {A : Type 0} (put : List ℕ → ℕ → A → List ℕ) (again : (b : List ℕ) (k : ℕ) (x y : A) → put (put b k x) k y ≡ put b k y)
    (comm : (b : List ℕ) (i : ℕ) (x : A) (j : ℕ) (y : A) → (i ≡ j → ⊥) → put (put b i x) j y ≡ put (put b j y) i x) where
  -- a store at a place before those of an array
  store_before : (xs : List A) (b : List ℕ) (k i : ℕ) (x : A) → i < k → put (store_each put b k xs) i x ≡ store_each put (put b i x) k xs
  store_before [] b k i x h = refl
  store_before (y ∷ ys) b k i x h =
      store_before ys (put b k y) (suc k) i x (omega arith)
      ∙ ap (λ (c : List ℕ). store_each put c (suc k) ys) (comm b k y i x (omega arith))

  -- the second of two arrays stored at one place counts
  pub store_again : (xs ys : List A) (b : List ℕ) (k : ℕ) → length xs ≡ length ys → store_each put (store_each put b k xs) k ys ≡ store_each put b k ys
  store_again [] [] b k h = refl
  store_again [] (y ∷ ys) b k h = absurd (omega arith)
  store_again (x ∷ xs) [] b k h = absurd (omega arith)
  store_again (x ∷ xs) (y ∷ ys) b k h =
      ap (λ (c : List ℕ). store_each put c (suc k) ys) (store_before xs (put b k x) (suc k) k y (omega arith) ∙ ap (λ (c : List ℕ). store_each put c (suc k) xs) (again b k x y))
      ∙ store_again xs ys (put b k y) (suc k) (omega arith)

-- an array stored after a change that lies beside its places
pub store_beside : {A : Type 0} (put : List ℕ → ℕ → A → List ℕ) (changed : List ℕ → List ℕ) (limit : ℕ)
    → ((b : List ℕ) (k : ℕ) (x : A) → k < limit → put (changed b) k x ≡ changed (put b k x))
    → (xs : List A) (b : List ℕ) (k : ℕ) → k + length xs ≤ limit → store_each put (changed b) k xs ≡ changed (store_each put b k xs)
store_beside put changed limit beside [] b k h = refl
store_beside put changed limit beside (x ∷ xs) b k h =
    ap (λ (c : List ℕ). store_each put c (suc k) xs) (beside b k x (omega arith)) ∙ store_beside put changed limit beside xs (put b k x) (suc k) (omega arith)

-- Words stored one after the other.
module _ (b : List ℕ) (at : ℕ) where
  -- to store the words that stand there changes nothing
  pub words_rewritten : (n : ℕ) → Bytes b → with_words b at (words_at b at n) ≡ b
  words_rewritten n h = go 0 n
    where
      go : (k n : ℕ) → store_each (λ c j w. with_word c (at + j) w) b k (each (λ j. word_at b (at + j)) k n) ≡ b
      go k zero = refl
      go k (suc n) =
          ap (λ (c : List ℕ). store_each (λ l j w. with_word l (at + j) w) c (suc k) (each (λ j. word_at b (at + j)) (suc k) n)) (word_rewritten b (at + k) h)
          ∙ go (suc k) n

  -- the second of two stores at one place counts
  pub words_again : (ws vs : List ℕ) → length ws ≡ length vs → with_words (with_words b at ws) at vs ≡ with_words b at vs
  words_again ws vs h =
      store_again (λ c j w. with_word c (at + j) w) (λ c k. word-again c (at + k)) (λ c i x j y n. word_comm c (at + i) x (at + j) y (λ e. n (omega arith)))
      ws vs b 0 h

  -- words of which one is replaced are the words stored, and then that one
  pub words_set : (ws : List ℕ) (i v : ℕ) → i < length ws → with_words b at (set ws i v) ≡ with_word (with_words b at ws) (at + i) v
  words_set ws i v h = go ws b 0 i h ∙ ap (λ (j : ℕ). with_word (with_words b at ws) (at + j) v) (zero-add i)
    where
      put : List ℕ → ℕ → ℕ → List ℕ
      put c j w = with_word c (at + j) w

      past : (ws c : List ℕ) (k i w : ℕ) → i < k → store_each put (put c i w) k ws ≡ put (store_each put c k ws) i w
      past [] c k i w h = refl
      past (x ∷ ws) c k i w h =
          ap (λ (l : List ℕ). store_each put l (suc k) ws) (word_comm c (at + i) w (at + k) x (omega arith)) ∙ past ws (put c k x) (suc k) i w (omega arith)

      go : (ws c : List ℕ) (k i : ℕ) → i < length ws → store_each put c k (set ws i v) ≡ put (store_each put c k ws) (k + i) v
      go [] c k i h = absurd (omega arith)
      go (x ∷ ws) c k zero h =
          ap (λ (l : List ℕ). store_each put l (suc k) ws) (sym (word-again c (at + k) x v))
          ∙ past ws (put c k x) (suc k) k v (omega arith)
          ∙ ap (λ (j : ℕ). put (store_each put c k (x ∷ ws)) j v) (sym (add-zero k))
      go (x ∷ ws) c k (suc i) h =
          let e : suc k + i ≡ k + suc i = omega arith in
          go ws (put c k x) (suc k) i (omega arith) ∙ ap (λ (j : ℕ). put (store_each put c k (x ∷ ws)) j v) e
