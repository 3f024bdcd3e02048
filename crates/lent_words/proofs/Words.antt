-- Laws of words in bytes, and of records at places: what was stored is read back, and what stands beside it is as it was. Assumes nothing.
use Prim.Native.Nat.{ℕ, zero, suc, ◌+◌, ◌-◌, ◌*◌, ◌/◌, ◌^◌, ◌<◌, ◌≤◌}
use mathlib.Core.Path.{◌≡◌, refl, sym, ap, ◌∙◌}
use mathlib.Core.Bool.{Bool, true, false, cond}
use mathlib.Core.Logic.{◌⊎◌, inl, inr}
use mathlib.Core.List.{List, [], ◌∷◌, ◌++◌, append_assoc}
use native.Mathlib.Omega.{arith}
use native.Mathlib.Numerals.{add-one}
use native.Mathlib.Nat.{add-zero, zero-add, add-suc, suc-add}
use lib.Dec.{ltb}
use borrow.Author.Tests.{ltb-true, ltb-false, le-leb, lt-leb}
use lib.ListN.{length, get_or, set, take, drop, length-set, length-append, length-drop}
use borrow.Rule.Slice.PartMut.{put_mid}
use lib.Seq.{drop-drop, sets, sets-eq, length-sets, take_all, take_at, drop_at, drop-set-lt, drop-set-add, take-set-le, take-suc, take-suc-set, length-take-le, drop-append-add}
use Rattle.lists.proofs.Laws.{cond_all}
use Rattle.lent_words.specs.Words.{of_bytes, to_bytes, has_word, word_at, with_word, each, store_each, with_words, bytes_of}

-- bytes that were split off a number make it again
pub of_to : (n v : ℕ) → v < 256 ^ n → of_bytes (to_bytes n v) ≡ v
of_to zero v h = omega arith
of_to (suc n) v h = rw (of_to n (v / 256) (omega arith)) (omega arith)

pub length_to : (n v : ℕ) → length (to_bytes n v) ≡ n
length_to zero v = refl
length_to (suc n) v = ap suc (length_to n (v / 256))

-- Stores change nothing of a part that lies before or past them.
part_beside_set : (l : List ℕ) (i a k n : ℕ) → (k + n ≤ i) ⊎ (i < k) → take n (drop k (set l i a)) ≡ take n (drop k l)
part_beside_set l i a k n (inr h) = rw (drop-set-lt k l i a h)
part_beside_set l i a k n (inl h) =
    let e : i ≡ k + (i - k) = omega arith in
    ap (λ (j : ℕ). take n (drop k (set l j a))) e ∙ ap (take n) (drop-set-add k l (i - k) a) ∙ take-set-le n (drop k l) (i - k) a (omega arith)

pub part_beside : (vs l : List ℕ) (i k n : ℕ) → (k + n ≤ i) ⊎ (i + length vs ≤ k) → take n (drop k (sets l i vs)) ≡ take n (drop k l)
part_beside [] l i k n h = refl
part_beside (a ∷ vs) l i k n (inl h) = part_beside vs (set l i a) (suc i) k n (inl (omega arith)) ∙ part_beside_set l i a k n (inl h)
part_beside (a ∷ vs) l i k n (inr h) = part_beside vs (set l i a) (suc i) k n (inr (omega arith)) ∙ part_beside_set l i a k n (inr (omega arith))

-- the stores of a word, where the bytes have it
pub word_stored : (l : List ℕ) (i v : ℕ) → 8 * i + 8 ≤ length l → with_word l i v ≡ sets l (8 * i) (to_bytes 8 v)
unfolding with_word
word_stored l i v h = rw (le-leb (8 * i + 8) (length l) h)

-- the bytes of a word, where the bytes have it
pub word_read : (l : List ℕ) (i : ℕ) → 8 * i + 8 ≤ length l → word_at l i ≡ of_bytes (take 8 (drop (8 * i) l))
unfolding word_at
word_read l i h = rw (le-leb (8 * i + 8) (length l) h)

-- where the bytes end before a word, it reads 0 and takes no write
pub word_missing : (l : List ℕ) (i : ℕ) → length l < 8 * i + 8 → word_at l i ≡ 0
unfolding word_at
word_missing l i h = rw (lt-leb (8 * i + 8) (length l) h)

pub word_kept : (l : List ℕ) (i v : ℕ) → length l < 8 * i + 8 → with_word l i v ≡ l
unfolding with_word
word_kept l i v h = rw (lt-leb (8 * i + 8) (length l) h)

-- what holds of bytes after the stores of a word, and of the bytes themselves, holds of bytes with a word
pub word_all : (P : List ℕ → Type 0) (l : List ℕ) (i v : ℕ) → P (sets l (8 * i) (to_bytes 8 v)) → P l → P (with_word l i v)
unfolding with_word
word_all P l i v h k = cond_all P (has_word l i) (sets l (8 * i) (to_bytes 8 v)) l h k

pub length-word : (l : List ℕ) (i v : ℕ) → length (with_word l i v) ≡ length l
length-word l i v = word_all (λ b. length b ≡ length l) l i v (length-sets l (8 * i) (to_bytes 8 v)) refl

-- the bytes before a word, the word's, and those past it
pub word_parts : (l : List ℕ) (i v : ℕ) → 8 * i + 8 ≤ length l → with_word l i v ≡ take (8 * i) l ++ to_bytes 8 v ++ drop (8 * i + 8) l
word_parts l i v h = word_stored l i v h ∙ sets-eq (to_bytes 8 v) l (8 * i) h

-- a word that is stored, as a write to those eight bytes leaves it
pub word_put : (l c : List ℕ) (i v n : ℕ) → 8 * i + 8 ≤ length l → n ≡ 8 → c ≡ to_bytes 8 v → put_mid (8 * i) n l c ≡ with_word l i v
word_put l c i v n h e f =
    rw (e, f, drop-drop 8 (8 * i) l) (sym (word_parts l i v h ∙ append_assoc (take (8 * i) l) (to_bytes 8 v) (drop (8 * i + 8) l)))

-- The word that was written is read back.
pub word_same : (l : List ℕ) (i v : ℕ) → 8 * i + 8 ≤ length l → v < 2 ^ 64 → word_at (with_word l i v) i ≡ v
word_same l i v h fits =
    let before : length (take (8 * i) l) ≡ 8 * i = length-take-le (8 * i) l (omega arith) in
    let p = take (8 * i) l in
    let q = drop (8 * i + 8) l in
    word_read (with_word l i v) i (omega (arith, length-word l i v))
    ∙ rw (word_parts l i v h, append_assoc p (to_bytes 8 v) q, drop_at p (to_bytes 8 v ++ q) (8 * i) before) (of_to 8 v fits)

-- words do not overlap
pub word_other : (l : List ℕ) (i v j : ℕ) → (i ≡ j → ⊥) → word_at (with_word l i v) j ≡ word_at l j
unfolding word_at
word_other l i v j h =
    rw (length-word l i v)
    (ap (λ (b : List ℕ). cond (has_word l j) (of_bytes b) 0) (word_all (λ b. take 8 (drop (8 * j) b) ≡ take 8 (drop (8 * j) l)) l i v (go (ltb i j) refl) refl))
  where
    go : (b : Bool) → ltb i j ≡ b → take 8 (drop (8 * j) (sets l (8 * i) (to_bytes 8 v))) ≡ take 8 (drop (8 * j) l)
    go true e = part_beside (to_bytes 8 v) l (8 * i) (8 * j) 8 (inr (omega (arith, ltb-true i j e)))
    go false e = part_beside (to_bytes 8 v) l (8 * i) (8 * j) 8 (inl (omega (arith, ltb-false i j e)))

-- Places, one after the other.
module _ {A : Type 0} (f : ℕ → A) where
  pub length-each : (k n : ℕ) → length (each f k n) ≡ n
  length-each k zero = refl
  length-each k (suc n) = ap suc (length-each (suc k) n)

  pub get_d_each : (k n i : ℕ) (d : A) → i < n → get_or (each f k n) i d ≡ f (k + i)
  get_d_each k zero i d h = absurd (omega arith)
  get_d_each k (suc n) zero d h = ap f (sym (add-zero k))
  get_d_each k (suc n) (suc i) d h = get_d_each (suc k) n i d (omega arith) ∙ ap f (suc-add k i ∙ sym (add-suc k i))

  pub each_snoc : (k n : ℕ) → each f k (suc n) ≡ each f k n ++ (f (k + n) ∷ [])
  each_snoc k zero = rw (add-zero k)
  each_snoc k (suc n) =
      let e : suc k + n ≡ k + suc n = suc-add k n ∙ sym (add-suc k n) in
      ap (◌∷◌ (f k)) (each_snoc (suc k) n ∙ rw e)

pub each_same : {A : Type 0} (f g : ℕ → A) (k n : ℕ) → ((i : ℕ) → k ≤ i → i < k + n → f i ≡ g i) → each f k n ≡ each g k n
each_same f g k zero h = refl
each_same f g k (suc n) h =
    rw (h k (omega arith) (omega arith)) (ap (◌∷◌ (g k)) (each_same f g (suc k) n (λ i a b. h i (omega arith) (omega arith))))

-- records stored one list after the other
pub store_append : {A : Type 0} (put : List ℕ → ℕ → A → List ℕ) (b : List ℕ) (k : ℕ) (xs ys : List A)
    → store_each put b k (xs ++ ys) ≡ store_each put (store_each put b k xs) (k + length xs) ys
store_append put b k [] ys = rw (add-zero k)
store_append put b k (x ∷ xs) ys =
    let e : suc k + length xs ≡ k + suc (length xs) = suc-add k (length xs) ∙ sym (add-suc k (length xs)) in
    store_append put (put b k x) (suc k) xs ys ∙ rw e

pub words_after : (b : List ℕ) (at : ℕ) (xs ys : List ℕ) (n : ℕ) → length xs ≡ n
    → with_words b at (xs ++ ys) ≡ store_each (λ l j w. with_word l (at + j) w) (with_words b at xs) n ys
words_after b at xs ys n e = store_append (λ l j w. with_word l (at + j) w) b 0 xs ys ∙ rw (zero-add (length xs), e)

-- records stored one place further
pub store_later : {A : Type 0} (put : List ℕ → ℕ → A → List ℕ) (b : List ℕ) (k : ℕ) (xs : List A)
    → store_each (λ l j x. put l (j + 1) x) b k xs ≡ store_each put b (k + 1) xs
store_later put b k [] = refl
store_later put b k (x ∷ xs) =
    let e : suc k + 1 ≡ suc (k + 1) = omega arith in
    store_later put (put b (k + 1) x) (suc k) xs ∙ rw e

-- A loop that reads what stands at `n` places into an array: the first `i` are read.
pub record Read {A : Type 0} (f : ℕ → A) (n : ℕ) (xs : List A) (i : ℕ) : Type 0 where
  pub within : i ≤ n
  pub long : length xs ≡ n
  pub done : take i xs ≡ each f 0 i

module _ {A : Type 0} {f : ℕ → A} {n : ℕ} {xs : List A} {i : ℕ} (read : Read f n xs i) where
  pub read_next : i < n → (x : A) → x ≡ f i → Read f n (set xs i x) (i + 1)
  read_next h x e =
      let k : i < length xs = omega (arith, read.long) in
      let z : 0 + i ≡ i = omega arith in
      record {
        within = omega arith;
        long = length-set xs i x ∙ read.long;
        done = rw (add-one, take-suc-set xs i x k, read.done, each_snoc f 0 i, z, e);
      }

  pub read_done : n ≤ i → xs ≡ each f 0 n
  read_done h =
      let e : i ≡ n = omega (arith, read.within) in
      sym (take_all n xs (omega (arith, read.long))) ∙ ap (λ (m : ℕ). take m xs) (sym e) ∙ read.done ∙ rw e

-- A loop that stores the elements of an array at `n` places: the first `i` are stored.
pub record Stored {A : Type 0} (put : List ℕ → ℕ → A → List ℕ) (before : List ℕ) (xs : List A) (b : List ℕ) (i : ℕ) : Type 0 where
  pub within : i ≤ length xs
  pub done : b ≡ store_each put before 0 (take i xs)

module _ {A : Type 0} {put : List ℕ → ℕ → A → List ℕ} {before : List ℕ} {xs : List A} {b : List ℕ} {i : ℕ} (stored : Stored put before xs b i) where
  pub stored_next : i < length xs → (d : A) (b' : List ℕ) → b' ≡ put b i (get_or xs i d) → Stored put before xs b' (i + 1)
  stored_next h d b' e =
      let z : 0 + length (take i xs) ≡ i = omega (arith, length-take-le i xs stored.within) in
      record {
        within = omega arith;
        done = e ∙ rw (add-one, take-suc xs i d h, store_append put before 0 (take i xs) (get_or xs i d ∷ []), z, stored.done);
      }

  pub stored_done : length xs ≤ i → b ≡ store_each put before 0 xs
  stored_done h = stored.done ∙ rw (take_all i xs h)

-- a buffer whose every word is written
pub written-whole : (ws p b : List ℕ) (k : ℕ) → length p ≡ 8 * k → length b ≡ 8 * length ws → store_each with_word (p ++ b) k ws ≡ p ++ bytes_of ws
written-whole [] p [] k hp hb = refl
written-whole [] p (x ∷ xs) k hp hb = absurd (omega arith)
written-whole (w ∷ ws) p b k hp hb =
    let q = p ++ to_bytes 8 w in
    let long : length q ≡ 8 * suc k = length-append p (to_bytes 8 w) ∙ omega arith in
    let rest : length (drop 8 b) ≡ 8 * length ws = length-drop 8 b ∙ omega arith in
    rw (word_parts (p ++ b) k w (omega (arith, length-append p b)), take_at p b (8 * k) hp)
    (ap (λ (r : List ℕ). store_each with_word (q ++ r) (suc k) ws) (past p b (8 * k) hp) ∙ written-whole ws q (drop 8 b) (suc k) long rest ∙ append_assoc p (to_bytes 8 w) (bytes_of ws))
  where
    past : (p b : List ℕ) (n : ℕ) → length p ≡ n → drop (n + 8) (p ++ b) ≡ drop 8 b
    past p b n e = rw (sym e) (drop-append-add p b 8)
