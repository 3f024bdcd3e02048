-- Laws of one core's words in place: of any number a word reads as the core's field or a fresh core's, and a core of which some words differ is
-- stored by the stores of those words. Assumes nothing.
use Prim.Native.Nat.{ℕ, zero, suc, ◌+◌, ◌-◌, ◌*◌, ◌<◌, ◌≤◌}
use mathlib.Core.Path.{◌≡◌, refl, sym, ap, ◌∙◌}
use mathlib.Core.Bool.{Bool, true, false, cond}
use mathlib.Core.List.{List, [], ◌∷◌, ◌++◌}
use native.Mathlib.Omega.{arith}
use native.Mathlib.Nat.{zero-add}
use borrow.Author.Tests.{ltb-true, ltb-false, lt-ltb, le-ltb}
use lib.Dec.{eqb, ltb}
use lib.ListN.{length, get_or, set, take, replicate, length-set, length-append, length-replicate, get_or-append}
use lib.Seq.{set_at, set-append_left}
use Rattle.lists.proofs.Laws.{cond_all, cond_same}
use Rattle.lent_words.specs.Words.{word_at, with_word, each, words_at, with_words, kept_code, read_code, Bytes}
use Rattle.lent_words.proofs.Words.{length-each, get_d_each}
use Rattle.lent_words.proofs.RoundTrip.{Every, code_kept}
use Rattle.lent_words.proofs.InPlace.{words_rewritten, words_set}
use Rattle.exceptions.specs.declared.Core.{Core}
use Rattle.exceptions.specs.declared.GprWritten.{GprWritten}
use Rattle.exceptions.specs.Registers.{fresh_core, advance_pc, with_registers, write_gpr, core_of, next_instruction}
use Rattle.exceptions.specs.declared.Recipient.{Recipient}
use Rattle.exceptions.specs.declared.Recipient.TheVariants.{Firmware, Platform}
use Rattle.exceptions.proofs.Laws.{write_length}
use Rattle.forwarded_call.specs.declared.GuestCall.{GuestCall}
use Rattle.forwarded_call.specs.ForwardedCall.{registers_for, first_registers, forwarded_result}
use Rattle.lent_cores.specs.Layout.{wait_by_code, wait_number, core_at, with_core, cores_at, core_length, wait_word, wait_codes, elr_word}
use Rattle.lent_cores.proofs.Records.{core_of_lem, no_core, rest_words, length-core}
use Rattle.core_answers.specs.declared.TrapResult.{TrapResult}
use Rattle.core_answers.specs.Answers.{forwarded_length}

-- what is read of a core of any number: above 7, what a fresh core has
pub of_core : {A : Type 0} (f : Core → A) (b : List ℕ) (i : ℕ) → f (core_of (cores_at b) i) ≡ cond (ltb 7 i) (f fresh_core) (f (core_at b i))
of_core {A} f b i = go (ltb 7 i) refl
  where
    go : (t : Bool) → ltb 7 i ≡ t → f (core_of (cores_at b) i) ≡ cond t (f fresh_core) (f (core_at b i))
    go true e = ap f (no_core b i fresh_core (omega (arith, ltb-true 7 i e)))
    go false e = ap f (core_of_lem b i fresh_core (omega (arith, ltb-false 7 i e)))

-- its registers x0 to x30, one after the other
pub core-x : (b : List ℕ) (i : ℕ) → (core_of (cores_at b) i).x ≡ each (λ j. cond (ltb 7 i) 0 (word_at b (core_length * i + j))) 0 31
unfolding fresh_core core_at
core-x b i = of_core (λ (c : Core). c.x) b i ∙ go (ltb 7 i)
  where
    go : (t : Bool) → cond t (replicate 31 0) (words_at b (core_length * i) 31) ≡ each (λ j. cond t 0 (word_at b (core_length * i + j))) 0 31
    go true = refl
    go false = refl

-- one of them
pub core_gpr : (b : List ℕ) (i index : ℕ) → index < 31
    → get_or (core_of (cores_at b) i).x index 0 ≡ cond (ltb 7 i) 0 (word_at b (core_length * i + index))
core_gpr b i index h =
    let word : ℕ → ℕ = λ j. cond (ltb 7 i) 0 (word_at b (core_length * i + j)) in
    ap (λ (l : List ℕ). get_or l index 0) (core-x b i) ∙ get_d_each word 0 31 index 0 h ∙ ap word (zero-add index)

-- the first of the words that stand at places
take-each : (f : ℕ → ℕ) (k n m : ℕ) → m ≤ n → take m (each f k n) ≡ each f k m
take-each f k n zero h = refl
take-each f k zero (suc m) h = absurd (omega arith)
take-each f k (suc n) (suc m) h = ap (◌∷◌ (f k)) (take-each f (suc k) n m (omega arith))

-- The values of a call that is handed out: its function identifier, then registers of the core, zeros past them.
module _ (b : List ℕ) (i : ℕ) (call : GuestCall) where
  abbrev count : ℕ
  count = registers_for call.recipient

  count_fits : (0 < count) × (count ≤ forwarded_length)
  count_fits = go call.recipient
    where
      go : (r : Recipient) → (0 < registers_for r) × (registers_for r ≤ forwarded_length)
      go Firmware = (omega arith, omega arith)
      go Platform = (omega arith, omega arith)

  abbrev value : ℕ → ℕ
  value zero = call.function_id
  value (suc j) = cond (ltb 7 i) 0 (word_at b (core_length * i + suc j))

  abbrev pub handed_out : TrapResult
  handed_out = forwarded_result call (core_of (cores_at b) i).x

  values_words : handed_out.values ≡ each value 0 count ++ replicate (forwarded_length - count) 0
  unfolding first_registers
  values_words =
      ap (λ (l : List ℕ). l ++ replicate (forwarded_length - count) 0)
      (ap (λ (x : List ℕ). take count (set x 0 call.function_id)) (core-x b i) ∙ take-each value 0 31 count (omega (arith, count_fits.1)))

  pub length_values : length handed_out.values ≡ forwarded_length
  length_values =
      ap length values_words
      ∙ length-append (each value 0 count) (replicate (forwarded_length - count) 0)
      ∙ omega (arith, count_fits.1, length-each value 0 count, length-replicate {A = ℕ} (forwarded_length - count) 0)

  value_at_lem : (k : ℕ) → k < count → get_or handed_out.values k 0 ≡ value k
  value_at_lem k h =
      ap (λ (l : List ℕ). get_or l k 0) values_words
      ∙ get_or-append (each value 0 count) (replicate (forwarded_length - count) 0) 0 k (omega (arith, length-each value 0 count))
      ∙ get_d_each value 0 count k 0 h
      ∙ ap value (zero-add k)

  -- the first, one that is a register, and one past them
  pub value-first : get_or handed_out.values 0 0 ≡ call.function_id
  value-first = value_at_lem 0 count_fits.0

  pub values_begin : (k : ℕ) → k ≡ 0 → get_or handed_out.values k 0 ≡ call.function_id
  values_begin k e = rw e value-first

  pub value_within : (k : ℕ) → (k ≡ 0 → ⊥) → k < count → get_or handed_out.values k 0 ≡ cond (ltb 7 i) 0 (word_at b (core_length * i + k))
  value_within zero n h = absurd (n refl)
  value_within (suc k) n h = value_at_lem (suc k) h

  pub value-past : (k : ℕ) → count ≤ k → get_or handed_out.values k 0 ≡ 0
  value-past k h = ap (λ (l : List ℕ). get_or l k 0) values_words ∙ past (each value 0 count) (forwarded_length - count) k (omega (arith, length-each value 0 count))
    where
      zeros : (n k : ℕ) → get_or (replicate {A = ℕ} n 0) k 0 ≡ 0
      zeros zero k = refl
      zeros (suc n) zero = refl
      zeros (suc n) (suc k) = zeros n k

      past : (xs : List ℕ) (n k : ℕ) → length xs ≤ k → get_or (xs ++ replicate n 0) k 0 ≡ 0
      past [] n k h = zeros n k
      past (x ∷ xs) n zero h = absurd (omega arith)
      past (x ∷ xs) n (suc k) h = past xs n k (omega arith)

-- to write what a word means keeps the word
wait_kept : (w : ℕ) → kept_code (length wait_codes) w (wait_number (wait_by_code w)) ≡ w
unfolding wait_by_code
wait_kept w = ap (kept_code (length wait_codes) w) (number w) ∙ code_kept (length wait_codes) w
  where
    number : (code : ℕ) → wait_number (wait_by_code code) ≡ read_code (length wait_codes) code
    number zero = refl
    number (suc zero) = refl
    number (suc (suc zero)) = refl
    number (suc (suc (suc zero))) = refl
    number (suc (suc (suc (suc zero)))) = refl
    number (suc (suc (suc (suc (suc n))))) = rw (le-ltb (suc (suc (suc (suc (suc n))))) 5 (omega arith))

-- a core stored where it stands changes nothing
core_kept : (b : List ℕ) (i : ℕ) → Bytes b → with_core b i (core_at b i) ≡ b
unfolding with_core core_at
core_kept b i bytes = rw (wait_kept (word_at b (core_length * i + wait_word))) (words_rewritten b (core_length * i) core_length bytes)

-- words of which some are replaced, and stores of some words from a place on
abbrev pub replaced : List ℕ → List (ℕ × ℕ) → List ℕ
replaced ws [] = ws
replaced ws ((j, v) ∷ rs) = replaced (set ws j v) rs

abbrev pub stores : List ℕ → ℕ → List (ℕ × ℕ) → List ℕ
stores b at [] = b
stores b at ((j, v) ∷ rs) = stores (with_word b (at + j) v) at rs

-- to store words of which some are replaced is to store the words and then those
words_replaced : (b : List ℕ) (at n : ℕ) (rs : List (ℕ × ℕ)) (ws : List ℕ) → length ws ≡ n → Every (λ r. r.0 < n) rs
    → with_words b at (replaced ws rs) ≡ stores (with_words b at ws) at rs
words_replaced b at n [] ws e h = refl
words_replaced b at n ((j, v) ∷ rs) ws e h =
    words_replaced b at n rs (set ws j v) (length-set ws j v ∙ e) h.1
    ∙ ap (λ (c : List ℕ). stores c at rs) (words_set b at ws j v (omega (arith, h.0)))

-- the words that a core is stored as
abbrev pub core_words : List ℕ → ℕ → Core → List ℕ
core_words b i c = c.x ++ rest_words b i c

-- a core of which some words differ is stored by the core's stores and those of these words
pub core-replaced : (b : List ℕ) (i : ℕ) (c c' : Core) (rs : List (ℕ × ℕ)) → length c.x ≡ 31 → Every (λ r. r.0 < core_length) rs
    → replaced (core_words b i c) rs ≡ core_words b i c' → stores (with_core b i c) (core_length * i) rs ≡ with_core b i c'
unfolding with_core
core-replaced b i c c' rs registers within e =
    sym (words_replaced b (core_length * i) core_length rs (core_words b i c) (length-core b i c registers) within) ∙ ap (with_words b (core_length * i)) e

-- What a write of a guest register leaves of the core.
module _ (c : Core) (index v : ℕ) where
  -- what is as it was in a core with other registers is as it was
  kept : {A : Type 0} (f : Core → A) → f (with_registers c (set c.x index v)) ≡ f c → f (write_gpr c index v).core ≡ f c
  unfolding write_gpr
  kept {A} f e =
      let Same : GprWritten → Type 0 = λ w. f w.core ≡ f c in
      cond_all Same (ltb index 31) _ _ e (cond_all Same (eqb index 31) _ _ refl refl)

  write_none : 31 ≤ index → (write_gpr c index v).core ≡ c
  unfolding write_gpr
  write_none h = rw (le-ltb index 31 h) (cond_all (λ (w : GprWritten). w.core ≡ c) (eqb index 31) _ _ refl refl)

  write_elr : (write_gpr c index v).core.elr ≡ c.elr
  unfolding write_gpr with_registers
  write_elr = kept (λ (d : Core). d.elr) refl

-- Words `rs` that are stored in one core, which is `f` of the core then.
module _ (b : List ℕ) (i : ℕ) (rs : Core → List (ℕ × ℕ)) (f : Core → Core) (bytes : Bytes b) (within : Every (λ r. r.0 < core_length) (rs (core_at b i)))
    (differ : replaced (core_words b i (core_at b i)) (rs (core_at b i)) ≡ core_words b i (f (core_at b i))) where
  -- one of the eight
  pub core-put : i < 8 → stores b (core_length * i) (rs (core_of (cores_at b) i)) ≡ with_core b i (f (core_of (cores_at b) i))
  unfolding core_at
  core-put h =
      rw (core_of_lem b i fresh_core h)
      (ap (λ (c : List ℕ). stores c (core_length * i) (rs (core_at b i))) (sym (core_kept b i bytes)) ∙ core-replaced b i (core_at b i) (f (core_at b i)) rs' registers within differ)
    where
      rs' : List (ℕ × ℕ)
      rs' = rs (core_at b i)

      registers : length (core_at b i).x ≡ 31
      registers = refl

  -- a core of any number
  pub any_put : cond (ltb 7 i) b (stores b (core_length * i) (rs (core_of (cores_at b) i)))
      ≡ cond (ltb 7 i) b (with_core b i (f (core_of (cores_at b) i)))
  any_put = go (ltb 7 i) refl
    where
      go : (t : Bool) → ltb 7 i ≡ t
          → cond t b (stores b (core_length * i) (rs (core_of (cores_at b) i))) ≡ cond t b (with_core b i (f (core_of (cores_at b) i)))
      go true e = refl
      go false e = core-put (omega (arith, ltb-false 7 i e))

-- A guest register is written: x0 to x30 by one store, and any other index stores nothing.
module _ (b : List ℕ) (i index v : ℕ) (bytes : Bytes b) where
  pub gpr_put : index < 31
      → cond (ltb 7 i) b (with_word b (core_length * i + index) v) ≡ cond (ltb 7 i) b (with_core b i (write_gpr (core_of (cores_at b) i) index v).core)
  unfolding write_gpr with_registers core_at
  gpr_put h =
      any_put b i (λ c. (index, v) ∷ []) (λ c. (write_gpr c index v).core) bytes (omega arith, tt)
      (rw (lt-ltb index 31 h) (set-append_left (words_at b (core_length * i) 31) (rest_words b i (core_at b i)) index v h))

  pub gpr_kept : 31 ≤ index → b ≡ cond (ltb 7 i) b (with_core b i (write_gpr (core_of (cores_at b) i) index v).core)
  gpr_kept h =
      sym (cond_same (ltb 7 i) b) ∙ any_put b i (λ c. []) (λ c. (write_gpr c index v).core) bytes tt (sym (ap (core_words b i) (write_none (core_at b i) index v h)))

-- A load is done: past the store of its register, ELR is stored.
pub load-put : (b : List ℕ) (i index v : ℕ) → let c = core_of (cores_at b) i in let d = (write_gpr c index v).core in let w = cond (ltb 7 i) b (with_core b i d) in
    cond (ltb 7 i) w (with_word w (core_length * i + elr_word) (next_instruction c.elr)) ≡ cond (ltb 7 i) b (with_core b i (advance_pc d))
unfolding advance_pc
load-put b i index v = go (ltb 7 i)
  where
    c : Core
    c = core_of (cores_at b) i

    d : Core
    d = (write_gpr c index v).core

    go : (t : Bool) → let w = cond t b (with_core b i d) in cond t w (with_word w (core_length * i + elr_word) (next_instruction c.elr)) ≡ cond t b (with_core b i (advance_pc d))
    go true = refl
    go false =
        let long : length d.x ≡ 31 = write_length c index v ∙ ap length (core-x b i) in
        rw (← write_elr c index v)
        (core-replaced b i d (advance_pc d) ((elr_word, next_instruction d.elr) ∷ []) long (omega arith, tt)
        (set_at d.x d.elr _ (next_instruction d.elr) 31 long))
