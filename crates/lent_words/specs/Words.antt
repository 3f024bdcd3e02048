-- Little-endian 64-bit words in bytes, numbered from 0. Assumes nothing.
use Rattle.std.specs.Prelude.{ℕ, zero, suc, ◌+◌, ◌*◌, ◌/◌, ◌%◌, ◌<◌, ◌≡◌, Bool, cond, List, [], ◌∷◌, ◌++◌, eqb, ltb, leb, length, get_or, take, drop}
use Rattle.std.proofs.lemmas.List.Edits.{sets}
pub use Rattle.bits.specs.Bits.{FitsWord}

-- the number of these bytes, the lowest first
abbrev pub of_bytes : List ℕ → ℕ
of_bytes [] = 0
of_bytes (b ∷ bs) = b + 256 * of_bytes bs

-- the lowest `n` bytes of a number, the lowest first
abbrev pub to_bytes : ℕ → ℕ → List ℕ
to_bytes zero v = []
to_bytes (suc n) v = v % 256 ∷ to_bytes n (v / 256)

-- the bytes have a word at a place
abbrev pub has_word : List ℕ → ℕ → Bool
has_word bytes i = leb (8 * i + 8) (length bytes)

-- the word at a place: eight bytes, and 0 where there is none
unfoldable pub word_at : List ℕ → ℕ → ℕ
word_at bytes i = cond (has_word bytes i) (of_bytes (take 8 (drop (8 * i) bytes))) 0

-- the bytes with `v` as the word at a place, if there is one: the other bytes are as they were
unfoldable pub with_word : List ℕ → ℕ → ℕ → List ℕ
with_word bytes i v = cond (has_word bytes i) (sets bytes (8 * i) (to_bytes 8 v)) bytes

-- what stands at `n` places from `i` on
abbrev pub each : {A : Type 0} → (ℕ → A) → ℕ → ℕ → List A
each at i zero = []
each at i (suc n) = at i ∷ each at (suc i) n

-- the bytes with records stored at places from `i` on
abbrev pub store_each : {A : Type 0} → (List ℕ → ℕ → A → List ℕ) → List ℕ → ℕ → List A → List ℕ
store_each put bytes i [] = bytes
store_each put bytes i (x ∷ xs) = store_each put (put bytes i x) (suc i) xs

-- `n` words from place `i` on
abbrev pub words_at : List ℕ → ℕ → ℕ → List ℕ
words_at bytes i n = each (λ j. word_at bytes (i + j)) 0 n

-- the bytes with these words from place `i` on
abbrev pub with_words : List ℕ → ℕ → List ℕ → List ℕ
with_words bytes i words = store_each (λ b j w. with_word b (i + j) w) bytes 0 words

-- a buffer that holds these words and nothing else
abbrev pub bytes_of : List ℕ → List ℕ
bytes_of [] = []
bytes_of (w ∷ ws) = to_bytes 8 w ++ bytes_of ws

-- a word as one of `limit` codes: any other word reads as 0
abbrev pub read_code : ℕ → ℕ → ℕ
read_code limit word = cond (ltb word limit) word 0

-- the word to write for a code: a word that reads as the code stays
unfoldable pub kept_code : ℕ → ℕ → ℕ → ℕ
kept_code limit word code = cond (eqb (read_code limit word) code) word code

-- the elements of a list are bytes
abbrev pub Bytes : List ℕ → Type 0
Bytes b = (i : ℕ) → get_or b i 0 < 256

-- `n` lent bytes
pub record Lent (n : ℕ) (b : List ℕ) : Type 0 where
  pub long : length b ≡ n
  pub bytes : Bytes b

-- What a call on lent bytes leaves: the number returned, "0 or the refusal's number", the state's bytes, and the result's, written whole.
pub record Left : Type 0 where
  pub number : ℕ
  pub state : List ℕ
  pub result : List ℕ

-- it returned this number, and left this state and this result
abbrev pub Leaves : Left → ℕ → List ℕ → List ℕ → Type 0
Leaves left number state result = (number ≡ left.number) × (state ≡ left.state) × (result ≡ left.result)

-- "A refusal .. all state is as before"
abbrev pub unless_refused : ℕ → List ℕ → List ℕ → List ℕ
unless_refused number before after = cond (eqb number 0) after before
