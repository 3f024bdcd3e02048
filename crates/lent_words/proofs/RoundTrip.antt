-- Laws of words and codes in lent bytes: what was stored is read back, and what stands beside it is as it was. Assumes nothing.
use Prim.Native.Nat.{ℕ, zero, suc, ◌+◌, ◌*◌, ◌/◌, ◌%◌, ◌^◌, ◌<◌, ◌≤◌}
use mathlib.Core.Path.{◌≡◌, refl, sym, ap, ◌∙◌}
use mathlib.Core.Bool.{Bool, true, false, cond}
use mathlib.Core.List.{List, [], ◌∷◌}
use native.Mathlib.Omega.{arith}
use native.Mathlib.Nat.{zero-add}
use lib.Dec.{eqb, ltb}
use borrow.Author.Tests.{ltb-false, lt-ltb, eqb-true, eq-eqb}
use lib.ListN.{length, get_or, set, take, drop}
use lib.Seq.{sets, get_or-set_other, get_or-drop}
use Rattle.lists.proofs.Laws.{cond_all}
use Rattle.lent_words.specs.Words.{of_bytes, to_bytes, has_word, word_at, with_word, each, store_each, words_at, with_words, read_code, kept_code, FitsWord, Bytes, Lent}
use Rattle.lent_words.proofs.Words.{get_d_each, each_same, length-word, word_all, word_same, word_other}
pub use Rattle.lists.proofs.Every.{Every}

-- what each store keeps, all keep
pub store_stays : {A : Type 0} (put : List ℕ → ℕ → A → List ℕ) (Good : List ℕ → Type 0) → ((c : List ℕ) (j : ℕ) (x : A) → Good c → Good (put c j x))
    → (xs : List A) (b : List ℕ) (k : ℕ) → Good b → Good (store_each put b k xs)
store_stays put Good stays [] b k good = good
store_stays put Good stays (x ∷ xs) b k good = store_stays put Good stays xs (put b k x) (suc k) (stays b k x good)

-- what no store changes is as it was
pub store_keeps : {A B : Type 0} (put : List ℕ → ℕ → A → List ℕ) (get : List ℕ → B) (xs : List A) (b : List ℕ) (k : ℕ)
    → ((c : List ℕ) (j : ℕ) (x : A) → k ≤ j → j < k + length xs → get (put c j x) ≡ get c) → get (store_each put b k xs) ≡ get b
store_keeps put get [] b k h = refl
store_keeps put get (x ∷ xs) b k h =
    store_keeps put get xs (put b k x) (suc k) (λ c j y l u. h c j y (omega arith) (omega arith)) ∙ h b k x (omega arith) (omega arith)

-- an array, and the word that counts it
abbrev pub counted : {A : Type 0} → (List ℕ → ℕ → A) → ℕ → ℕ → List ℕ → List A × ℕ
counted get limit at b = (each (get b) 0 limit, word_at b at)

-- Places of an array, where a store is read back at its place, changes no other place and keeps what it asks of the bytes.
module _ {A : Type 0} (get : List ℕ → ℕ → A) (put : List ℕ → ℕ → A → List ℕ) (Good : List ℕ → Type 0) (Fits : A → Type 0) (limit : ℕ)
    (stays : (b : List ℕ) (k : ℕ) (x : A) → Good b → Good (put b k x))
    (same : (b : List ℕ) (k : ℕ) (x : A) → Good b → k < limit → Fits x → get (put b k x) k ≡ x)
    (other : (b : List ℕ) (k : ℕ) (x : A) (i : ℕ) → (k ≡ i → ⊥) → get (put b k x) i ≡ get b i) where
  -- elements that were stored from a place on are read back
  each_back : (xs : List A) (b : List ℕ) (k : ℕ) → Good b → k + length xs ≤ limit → Every Fits xs
      → each (get (store_each put b k xs)) k (length xs) ≡ xs
  each_back [] b k good h fits = refl
  each_back (x ∷ xs) b k good h fits =
      rw (
        store_keeps put (λ c. get c k) xs (put b k x) (suc k) (λ c j y l u. other c j y k (omega arith)) ∙ same b k x good (omega arith) fits.0,
        each_back xs (put b k x) (suc k) (stays b k x good) (omega arith) fits.1,
      )

  -- a whole array is read back
  pub array_back : (xs : List A) (b : List ℕ) → Good b → length xs ≡ limit → Every Fits xs → each (get (store_each put b 0 xs)) 0 limit ≡ xs
  array_back xs b good e fits = ap (each (get (store_each put b 0 xs)) 0) (sym e) ∙ each_back xs b 0 good (omega arith) fits

  -- an array with its count is read back
  pub counted_back : (at n : ℕ) → ((c : List ℕ) → Good c → 8 * at + 8 ≤ length c) → ((c : List ℕ) (k : ℕ) → k < limit → get (with_word c at n) k ≡ get c k)
      → FitsWord n → (xs : List A) (b : List ℕ) → Good b → length xs ≡ limit → Every Fits xs
      → counted get limit at (with_word (store_each put b 0 xs) at n) ≡ (xs, n)
  counted_back at n room past count xs b good e fits =
      let s : List ℕ = store_each put b 0 xs in
      λ i. (
        (each_same (get (with_word s at n)) (get s) 0 limit (λ k l u. past s k (omega arith)) ∙ array_back xs b good e fits) i,
        word_same s at n (room s (store_stays put Good stays xs b 0 good)) count i,
      )

-- Words stored one after the other.
module _ (b : List ℕ) (at : ℕ) (ws : List ℕ) where
  -- the length is as it was
  pub length_words : length (with_words b at ws) ≡ length b
  length_words = store_keeps (λ c j w. with_word c (at + j) w) length ws b 0 (λ c j w l u. length-word c (at + j) w)

  -- a word at another place is as it was
  pub words_beside : (k : ℕ) → ((j : ℕ) → j < length ws → at + j ≡ k → ⊥) → word_at (with_words b at ws) k ≡ word_at b k
  words_beside k apart =
      store_keeps (λ c j w. with_word c (at + j) w) (λ c. word_at c k) ws b 0 (λ c j w l u. word_other c (at + j) w k (apart j (omega arith)))

  -- a byte of no word that is stored is as it was
  pub bytes_beside : (k : ℕ) → ((j : ℕ) → j < 8 * length ws → 8 * at + j ≡ k → ⊥) → get_or (with_words b at ws) k 0 ≡ get_or b k 0
  bytes_beside k apart =
      store_keeps (λ c j w. with_word c (at + j) w) (λ c. get_or c k 0) ws b 0
      (λ c j w l u.
      word_all (λ d. get_or d k 0 ≡ get_or c k 0) c (at + j) w
      (beside (to_bytes 8 w) c (8 * (at + j)) (λ m h e. apart (8 * j + m) (omega arith) (omega arith)))
      refl)
    where
      beside : (vs l : List ℕ) (i : ℕ) → ((j : ℕ) → j < length vs → i + j ≡ k → ⊥) → get_or (sets l i vs) k 0 ≡ get_or l k 0
      beside [] l i h = refl
      beside (v ∷ vs) l i h =
          beside vs (set l i v) (suc i) (λ j a e. h (suc j) (omega arith) (omega arith))
          ∙ get_or-set_other l i k v 0 (λ e. h 0 (omega arith) (omega arith))

  -- the words are read back, where each fits
  pub words_back : 8 * (at + length ws) ≤ length b → Every FitsWord ws → words_at (with_words b at ws) at (length ws) ≡ ws
  words_back room fits =
      array_back (λ c j. word_at c (at + j)) (λ c j w. with_word c (at + j) w) (λ c. 8 * (at + length ws) ≤ length c) FitsWord (length ws)
      (λ c j w h. omega (arith, length-word c (at + j) w))
      (λ c j w h l f. word_same c (at + j) w (omega arith) f)
      (λ c j w i h. word_other c (at + j) w (at + i) (omega arith))
      ws b room refl fits

  -- one of them is read back
  pub word_back : 8 * (at + length ws) ≤ length b → Every FitsWord ws → (j : ℕ) → j < length ws
      → word_at (with_words b at ws) (at + j) ≡ get_or ws j 0
  word_back room fits j h =
      let read : ℕ → ℕ = λ i. word_at (with_words b at ws) (at + i) in
      ap read (sym (zero-add j)) ∙ sym (get_d_each read 0 (length ws) j 0 h) ∙ ap (λ l. get_or l j 0) (words_back room fits)

-- lent bytes are lent bytes after stores
pub lent_words : {n : ℕ} (b : List ℕ) (at : ℕ) (ws : List ℕ) → Lent n b → Lent n (with_words b at ws)
lent_words b at ws lent = record {
  long = length_words b at ws ∙ lent.long;
  bytes = store_stays (λ c j w. with_word c (at + j) w) Bytes (λ c j w h. word_all Bytes c (at + j) w (bytes 8 w c (8 * (at + j)) h) h) ws b 0 lent.bytes;
}
  where
    byte : (l : List ℕ) (k v : ℕ) → v < 256 → Bytes l → Bytes (set l k v)
    byte [] k v f h i = h i
    byte (x ∷ l) zero v f h zero = f
    byte (x ∷ l) zero v f h (suc i) = h (suc i)
    byte (x ∷ l) (suc k) v f h zero = h zero
    byte (x ∷ l) (suc k) v f h (suc i) = byte l k v f (λ j. h (suc j)) i

    bytes : (n v : ℕ) (l : List ℕ) (k : ℕ) → Bytes l → Bytes (sets l k (to_bytes n v))
    bytes zero v l k h = h
    bytes (suc n) v l k h = bytes n (v / 256) (set l k (v % 256)) (suc k) (byte l k (v % 256) (omega arith) h)

-- a word of bytes fits
pub word_fits : (b : List ℕ) (i : ℕ) → Bytes b → FitsWord (word_at b i)
unfolding word_at
word_fits b i h =
    cond_all FitsWord (has_word b i) (of_bytes (take 8 (drop (8 * i) b))) 0 (fits 8 (drop (8 * i) b) (λ j. rw (get_or-drop (8 * i) b j 0) (h (8 * i + j)))) (omega arith)
  where
    fits : (n : ℕ) (l : List ℕ) → Bytes l → of_bytes (take n l) < 256 ^ n
    fits zero l h = omega arith
    fits (suc n) [] h = omega (arith, fits n [] h)
    fits (suc n) (x ∷ l) h = omega (arith, h 0, fits n l (λ i. h (suc i)))

-- a code that was written is read back
pub code_back : (limit old code : ℕ) → code < limit → read_code limit (kept_code limit old code) ≡ code
unfolding kept_code
code_back limit old code h = go (eqb (read_code limit old) code) refl
  where
    go : (b : Bool) → eqb (read_code limit old) code ≡ b → read_code limit (cond b old code) ≡ code
    go true e = eqb-true (read_code limit old) code e
    go false e = rw (lt-ltb code limit h)

-- to write the code that a word reads as keeps the word
pub code_kept : (limit word : ℕ) → kept_code limit word (read_code limit word) ≡ word
unfolding kept_code
code_kept limit word = rw (eq-eqb (read_code limit word) (read_code limit word) refl)

-- the word written for a code fits
pub code_fits : (limit old code : ℕ) → FitsWord old → FitsWord code → FitsWord (kept_code limit old code)
unfolding kept_code
code_fits limit old code h k = cond_all FitsWord (eqb (read_code limit old) code) old code h k

-- what a code means is read back, where a word that is no code means what 0 does
pub meaning_back : {A : Type 0} (f : ℕ → A) (limit : ℕ) → ((w : ℕ) → limit ≤ w → f w ≡ f 0) → (old code : ℕ) → code < limit
    → f (kept_code limit old code) ≡ f code
meaning_back f limit unknown old code h = go (kept_code limit old code) (ltb (kept_code limit old code) limit) refl ∙ ap f (code_back limit old code h)
  where
    go : (w : ℕ) (b : Bool) → ltb w limit ≡ b → f w ≡ f (cond b w 0)
    go w true e = refl
    go w false e = unknown w (ltb-false w limit e)
