-- Laws of cores in lent bytes: a core that was stored is read back, and what stands beside it is as it was. Assumes nothing.
use Prim.Native.Nat.{ℕ, zero, suc, ◌+◌, ◌-◌, ◌*◌, ◌^◌, ◌<◌, ◌≤◌, min}
use mathlib.Core.Path.{◌≡◌, refl, sym, ap, ◌∙◌}
use mathlib.Core.Bool.{Bool, true, false}
use lib.Dec.{ltb}
use borrow.Author.Tests.{ltb-true, ltb-false}
use mathlib.Core.List.{List, [], ◌∷◌, ◌++◌}
use native.Mathlib.Omega.{arith}
use native.Mathlib.Nat.{zero-add}
use lib.ListN.{length, get_or, take, drop, length-append, get_or-eq_default, set}
use lib.Seq.{take_at, drop_at, get_or-set_same}
use Rattle.lent_words.specs.Words.{word_at, each, kept_code, FitsWord, Lent, Bytes}
use Rattle.lent_words.proofs.Words.{get_d_each, length-each, word_same, word_missing}
use Rattle.lent_words.proofs.RoundTrip.{words_beside, lent_words, word_fits, code_fits, meaning_back}
use Rattle.lent_words.proofs.Every.{every_append, every_each}
use Rattle.lent_words.proofs.Records.{InWords, record_written, record_kept}
use Rattle.exceptions.specs.declared.Conduit.TheVariants.{Hvc, Smc}
use Rattle.exceptions.specs.declared.Recipient.TheVariants.{Firmware, Platform}
use Rattle.exceptions.specs.Registers.{Wait}
use Rattle.exceptions.specs.declared.Core.{Core}
use Rattle.exceptions.specs.Registers.{fresh_core, core_of}
use Rattle.lent_cores.specs.Layout.{wait_codes, wait_by_code, wait_number, core_at, fault_words, with_core, cores_at, counter_at, with_counter, core_length, wait_word, counter_word, cores_size, elr_word, spsr_word, elr_el1_word, spsr_el1_word, far_el1_word, esr_el1_word}
use Rattle.exceptions.proofs.InWords as core
use Rattle.std.specs.Prelude.{None, Some}

-- a code that names nothing else is nothing
pub unknown_wait : (code : ℕ) → (code ≡ 1 → ⊥) → (code ≡ 2 → ⊥) → (code ≡ 3 → ⊥) → (code ≡ 4 → ⊥) → wait_by_code code ≡ None
unfolding wait_by_code
unknown_wait zero a b c d = refl
unknown_wait (suc zero) a b c d = absurd (a refl)
unknown_wait (suc (suc zero)) a b c d = absurd (b refl)
unknown_wait (suc (suc (suc zero))) a b c d = absurd (c refl)
unknown_wait (suc (suc (suc (suc zero)))) a b c d = absurd (d refl)
unknown_wait (suc (suc (suc (suc (suc n))))) a b c d = refl

-- one of the eight cores, and that there is no other
pub core_of_lem : (cores : List ℕ) (i : ℕ) (d : Core) → i < 8 → get_or (cores_at cores) i d ≡ core_at cores i
unfolding cores_at
core_of_lem cores i d h = get_d_each (core_at cores) 0 8 i d h ∙ ap (core_at cores) (zero-add i)

pub no_core : (cores : List ℕ) (i : ℕ) (d : Core) → 8 ≤ i → get_or (cores_at cores) i d ≡ d
unfolding cores_at
no_core cores i d h = get_or-eq_default (each (core_at cores) 0 8) d {n = i} h

-- there are eight
pub length_cores : (cores : List ℕ) → length (cores_at cores) ≡ 8
unfolding cores_at
length_cores cores = length-each (core_at cores) 0 8

-- the core that was put in its place
pub core-set : (cores : List ℕ) (i : ℕ) (core : Core) → i < 8 → core_of (set (cores_at cores) i core) i ≡ core
core-set cores i core h = get_or-set_same (cores_at cores) i core fresh_core (omega (arith, length_cores cores))

-- the number of a wait is a code that means it
pub wait_code : (w : Wait) → (wait_number w < length wait_codes) × (wait_by_code (wait_number w) ≡ w)
unfolding wait_by_code
wait_code None = (omega arith, refl)
wait_code (Some (Hvc, Firmware)) = (omega arith, refl)
wait_code (Some (Hvc, Platform)) = (omega arith, refl)
wait_code (Some (Smc, Firmware)) = (omega arith, refl)
wait_code (Some (Smc, Platform)) = (omega arith, refl)

-- a wait that was written is read back
pub wait_back : (old : ℕ) (w : Wait) → wait_by_code (kept_code (length wait_codes) old (wait_number w)) ≡ w
unfolding wait_by_code
wait_back old w = meaning_back wait_by_code (length wait_codes) (λ c l. get_or-eq_default wait_codes None {n = c} l) old (wait_number w) (wait_code w).0 ∙ (wait_code w).1

-- the core that words make
abbrev pub core_from : List ℕ → Core
core_from ws =
    let rest = drop 31 ws in
    record {
      x = take 31 ws;
      elr = get_or rest 0 0;
      spsr = get_or rest 1 0;
      el1 = record { elr = get_or rest 2 0; spsr = get_or rest 3 0; far = get_or rest 4 0; esr = get_or rest 5 0 };
      wait = wait_by_code (get_or rest 6 0);
    }

-- a core stands in its words
pub core_in : (i : ℕ) → InWords (λ c. core_at c i) core_from (core_length * i) core_length
unfolding core_at
core_in i = record { reads = λ c. refl }

-- the words that a core is stored as, past its registers
abbrev pub rest_words : List ℕ → ℕ → Core → List ℕ
rest_words b i c = c.elr ∷ c.spsr ∷ (fault_words c.el1 ++ (kept_code (length wait_codes) (word_at b (core_length * i + wait_word)) (wait_number c.wait) ∷ []))

-- a core is stored as so many words
pub length-core : (b : List ℕ) (i : ℕ) (c : Core) → length c.x ≡ 31 → length (c.x ++ rest_words b i c) ≡ core_length
length-core b i c registers = length-append c.x (rest_words b i c) ∙ rw registers

-- a core that bytes hold is in words
pub core_in_words : (b : List ℕ) → Bytes b → (i : ℕ) → core.InWords (core_at b i)
unfolding core_at
core_in_words b h i =
    let at = core_length * i in
    let fits : (j : ℕ) → FitsWord (word_at b (at + j)) = λ j. word_fits b (at + j) h in
    record {
      registers = length-each (λ j. word_at b (at + j)) 0 31;
      x_fits = every_each FitsWord (λ j. word_at b (at + j)) fits 0 31;
      rest_fits = (fits elr_word, (fits spsr_word, (fits elr_el1_word, (fits spsr_el1_word, (fits far_el1_word, (fits esr_el1_word, tt))))));
    }

-- A core that is stored at place `k`.
module _ (b : List ℕ) (k : ℕ) where
  -- the core is read back
  pub core_back : (c : Core) → Lent cores_size b → k < 8 → core.InWords c → core_at (with_core b k c) k ≡ c
  unfolding with_core
  core_back c lent h words =
      let rest : List ℕ = rest_words b k c in
      record_written (core_in k) b (c.x ++ rest) (length-core b k c words.registers) (omega arith) (every_append FitsWord c.x rest words.x_fits (omega (arith, words.rest_fits, code)))
      ∙ rw (take_at c.x rest 31 words.registers, drop_at c.x rest 31 words.registers, wait_back old c.wait)
    where
      old : ℕ
      old = word_at b (core_length * k + wait_word)

      code : FitsWord (kept_code (length wait_codes) old (wait_number c.wait))
      code = code_fits (length wait_codes) old (wait_number c.wait) (word_fits b (core_length * k + wait_word) lent.bytes) (omega (arith, wait_code c.wait))

  -- the other cores are as they were
  pub core_beside : (c : Core) (k' : ℕ) → length c.x ≡ 31 → (k ≡ k' → ⊥) → core_at (with_core b k c) k' ≡ core_at b k'
  unfolding with_core
  core_beside c k' registers h = record_kept (core_in k') b (core_length * k) (c.x ++ rest_words b k c) (omega (arith, length-core b k c registers))

  -- a core leaves the counter as it was
  pub core_counter : (c : Core) → k < 8 → length c.x ≡ 31 → counter_at (with_core b k c) ≡ counter_at b
  unfolding with_core counter_at
  core_counter c h registers = words_beside b (core_length * k) (c.x ++ rest_words b k c) counter_word (omega (arith, length-core b k c registers))

  -- the bytes with a core are lent bytes
  pub core_lent : (c : Core) → Lent cores_size b → Lent cores_size (with_core b k c)
  unfolding with_core
  core_lent c lent = lent_words b (core_length * k) (c.x ++ rest_words b k c) lent

  pub core-bytes : (c : Core) → Bytes b → Bytes (with_core b k c)
  unfolding with_core
  core-bytes c bytes = (lent_words b (core_length * k) (c.x ++ rest_words b k c) (record { long = refl; bytes = bytes })).bytes

-- so are those with a counter
pub counter_lent : (b : List ℕ) (n : ℕ) → Lent cores_size b → Lent cores_size (with_counter b n)
unfolding with_counter
counter_lent b n lent = lent_words b counter_word (n ∷ []) lent

-- the counter that was stored is read back
pub counter_back : (b : List ℕ) (n : ℕ) → length b ≡ cores_size → FitsWord n → counter_at (with_counter b n) ≡ n
unfolding counter_at with_counter
counter_back b n long fits = word_same b counter_word n (omega arith) fits

-- where the number of a place does not fit 64 bits there is no word, nor is there one at the largest that fits
pub word_past : (b : List ℕ) (k r : ℕ) → length b < 2 ^ 64 → r ≡ min k (2 ^ 64 - 1) → word_at b r ≡ word_at b k
word_past b k r h e = go (ltb k (2 ^ 64)) refl
  where
    go : (t : Bool) → ltb k (2 ^ 64) ≡ t → word_at b r ≡ word_at b k
    go true f = let s : r ≡ k = omega (arith, ltb-true k (2 ^ 64) f) in ap (word_at b) s
    go false f = let p = ltb-false k (2 ^ 64) f in word_missing b r (omega arith) ∙ sym (word_missing b k (omega arith))
