-- Laws of ranges and regions stored in place: to store what stands there changes nothing. Assumes nothing.
use Prim.Native.Nat.{ℕ, suc, ◌+◌, ◌<◌, ◌≤◌}
use mathlib.Core.Path.{◌≡◌, refl, sym, ap, ◌∙◌}
use mathlib.Core.List.{List, [], ◌∷◌}
use native.Mathlib.Omega.{arith}
use native.Mathlib.Nat.{add-zero, zero-add}
use borrow.Author.Tests.{eq-eqb, lt-ltb, le-ltb}
use lib.ListN.{length, set}
use Rattle.lent_words.specs.Words.{word_at, with_word, each, store_each, words_at, with_words, Lent}
use Rattle.lent_words.proofs.RoundTrip.{words_beside, lent_words}
use Rattle.lent_words.proofs.InPlace.{word_rewritten, words_rewritten, words_again, one_stored, store_kept, store_again, store_beside, word-again, word_comm}
use Rattle.stage2_range.specs.declared.Stage2Range.{Stage2Range}
use Rattle.stage2_range.specs.declared.MemoryAccessRegion.{MemoryAccessRegion}
use Rattle.stage2_range.specs.Ranges.{range_words}
use Rattle.stage2_range.specs.Handlers.{handler_of, handler_number}
use Rattle.lent_policy.specs.Layout.{policy_size, range_start, allowed_count_at, region_start, range_at, with_range, region_at, kept_handler, region_stored, with_region, with_copy, with_allowed, read_word, write_word}
use Rattle.lent_policy.proofs.Records.{range_beside}

-- to write the handler that a word means keeps the word
handler_kept : (word : ℕ) → kept_handler word (handler_of word) ≡ word
handler_kept word = rw (eq-eqb (handler_number (handler_of word)) (handler_number (handler_of word)) refl)

module _ (b : List ℕ) (k : ℕ) (lent : Lent policy_size b) where
  -- to store the range that stands at a place changes nothing
  pub range_rewritten : with_range b k (range_at b k) ≡ b
  unfolding with_range range_at
  range_rewritten = ap (with_words b (range_start k)) there ∙ words_rewritten b (range_start k) 4 lent.bytes
    where
      there : range_words (range_at b k) ≡ words_at b (range_start k) 4
      there = rw (add-zero (range_start k))

  -- nor does it of a region
  pub region_rewritten : with_region b k (region_at b k) ≡ b
  unfolding with_region region_at
  region_rewritten = ap (with_words b (region_start k)) there ∙ words_rewritten b (region_start k) 5 lent.bytes
    where
      there : region_stored b k (region_at b k) ≡ words_at b (region_start k) 5
      there = rw (add-zero (region_start k), handler_kept (word_at b (region_start k + read_word)), handler_kept (word_at b (region_start k + write_word)))

-- A region is stored at another place where both are places, ..
module _ (b : List ℕ) (from to : ℕ) where
  pub copied : from < 16 → to < 16 → with_copy b from to ≡ with_region b to (region_at b from)
  unfolding with_copy
  copied h k = rw (lt-ltb from 16 h, lt-ltb to 16 k)

  -- .. and else nothing is
  pub no_from : 16 ≤ from → with_copy b from to ≡ b
  unfolding with_copy
  no_from h = rw (le-ltb from 16 h)

  pub no_to : from < 16 → 16 ≤ to → with_copy b from to ≡ b
  unfolding with_copy
  no_to h k = rw (lt-ltb from 16 h, le-ltb to 16 k)

-- lent bytes are lent bytes with another range, and with another region
pub range_lent : (b : List ℕ) (k : ℕ) (r : Stage2Range) → Lent policy_size b → Lent policy_size (with_range b k r)
unfolding with_range
range_lent b k r lent = lent_words b (range_start k) (range_words r) lent

pub region_lent : (b : List ℕ) (k : ℕ) (r : MemoryAccessRegion) → Lent policy_size b → Lent policy_size (with_region b k r)
unfolding with_region
region_lent b k r lent = lent_words b (region_start k) (region_stored b k r) lent

-- words stored at places that lie apart, in either order
words_comm : (ws vs : List ℕ) (b : List ℕ) (at to : ℕ) → ((j i : ℕ) → j < length ws → i < length vs → at + j ≡ to + i → ⊥)
    → with_words (with_words b at ws) to vs ≡ with_words (with_words b to vs) at ws
words_comm ws vs b at to apart = go vs b 0 (λ j i h l u. apart j i h (omega arith))
  where
    first : List ℕ → ℕ → ℕ → List ℕ
    first c j w = with_word c (at + j) w

    second : List ℕ → ℕ → ℕ → List ℕ
    second c i v = with_word c (to + i) v

    past : (ws c : List ℕ) (k i v : ℕ) → ((j : ℕ) → k ≤ j → j < k + length ws → at + j ≡ to + i → ⊥)
        → second (store_each first c k ws) i v ≡ store_each first (second c i v) k ws
    past [] c k i v h = refl
    past (w ∷ ws) c k i v h =
        past ws (first c k w) (suc k) i v (λ j l u. h j (omega arith) (omega arith))
        ∙ ap (λ (l : List ℕ). store_each first l (suc k) ws) (word_comm c (at + k) w (to + i) v (h k (omega arith) (omega arith)))

    go : (vs c : List ℕ) (k : ℕ) → ((j i : ℕ) → j < length ws → k ≤ i → i < k + length vs → at + j ≡ to + i → ⊥)
        → store_each second (store_each first c 0 ws) k vs ≡ store_each first (store_each second c k vs) 0 ws
    go [] c k h = refl
    go (v ∷ vs) c k h =
        ap (λ (l : List ℕ). store_each second l (suc k) vs) (past ws c 0 k v (λ j l u. h j k (omega arith) (omega arith) (omega arith)))
        ∙ go vs (second c k v) (suc k) (λ j i a l u. h j i a (omega arith) (omega arith))

-- regions stored at two places, in either order
pub region_comm : (b : List ℕ) (i : ℕ) (x : MemoryAccessRegion) (j : ℕ) (y : MemoryAccessRegion) → (i ≡ j → ⊥)
    → with_region (with_region b i x) j y ≡ with_region (with_region b j y) i x
unfolding with_region
region_comm b i x j y h =
    ap (with_words (with_words b (region_start i) (region_stored b i x)) (region_start j)) (kept i x j y h)
    ∙ words_comm (region_stored b i x) (region_stored b j y) b (region_start i) (region_start j) (λ k m l u e. omega arith)
    ∙ ap (with_words (with_words b (region_start j) (region_stored b j y)) (region_start i)) (sym (kept j y i x (λ e. h (sym e))))
  where
    kept : (i : ℕ) (x : MemoryAccessRegion) (j : ℕ) (y : MemoryAccessRegion) → (i ≡ j → ⊥)
        → region_stored (with_words b (region_start i) (region_stored b i x)) j y ≡ region_stored b j y
    kept i x j y h =
        rw (
          words_beside b (region_start i) (region_stored b i x) (region_start j + read_word) (omega arith),
          words_beside b (region_start i) (region_stored b i x) (region_start j + write_word) (omega arith),
        )

-- ranges of which one differs are stored by one store
pub range_stored : (b : List ℕ) (k : ℕ) (r : Stage2Range) (count : ℕ) → Lent policy_size b → k < 32
    → with_allowed b (set (each (range_at b) 0 32) k r) count ≡ with_word (with_range b k r) allowed_count_at count
unfolding with_allowed
range_stored b k r count lent h =
    ap (λ (c : List ℕ). with_word c allowed_count_at count)
    (one_stored range_at with_range (Lent policy_size) range_lent range_rewritten range_beside b 0 32 k r h lent
    ∙ ap (λ (j : ℕ). with_range b j r) (zero-add k))

-- the second of two stores of a range at one place counts
range_again : (b : List ℕ) (k : ℕ) (x y : Stage2Range) → with_range (with_range b k x) k y ≡ with_range b k y
unfolding with_range
range_again b k x y = words_again b (range_start k) (range_words x) (range_words y) refl

-- ranges stored at two places, in either order
range_comm : (b : List ℕ) (i : ℕ) (x : Stage2Range) (j : ℕ) (y : Stage2Range) → (i ≡ j → ⊥)
    → with_range (with_range b i x) j y ≡ with_range (with_range b j y) i x
unfolding with_range
range_comm b i x j y h = words_comm (range_words x) (range_words y) b (range_start i) (range_start j) (λ k m l u e. omega arith)

-- of allowed ranges stored twice the second count
pub allowed_again : (b : List ℕ) (rs : List Stage2Range) (n : ℕ) (rs' : List Stage2Range) (n' : ℕ) → length rs ≡ 32 → length rs' ≡ 32
    → with_allowed (with_allowed b rs n) rs' n' ≡ with_allowed b rs' n'
unfolding with_allowed with_range
allowed_again b rs n rs' n' h h' =
    ap (λ (c : List ℕ). with_word c allowed_count_at n')
    (store_beside with_range (λ c. with_word c allowed_count_at n) 32 (λ c k x u. words_comm (n ∷ []) (range_words x) c allowed_count_at (range_start k) (λ j i l m e. omega arith))
    rs' (store_each with_range b 0 rs) 0 (omega arith))
    ∙ word-again (store_each with_range (store_each with_range b 0 rs) 0 rs') allowed_count_at n n'
    ∙ ap (λ (c : List ℕ). with_word c allowed_count_at n') (store_again with_range range_again range_comm rs rs' b 0 (h ∙ sym h'))

-- to store the allowed ranges that stand there changes nothing
pub allowed_rewritten : (b : List ℕ) → Lent policy_size b → with_allowed b (each (range_at b) 0 32) (word_at b allowed_count_at) ≡ b
unfolding with_allowed
allowed_rewritten b lent =
    ap (λ (c : List ℕ). with_word c allowed_count_at (word_at b allowed_count_at)) (store_kept range_at with_range (Lent policy_size) range_lent range_rewritten range_beside b 0 32 lent)
    ∙ word_rewritten b allowed_count_at lent.bytes
