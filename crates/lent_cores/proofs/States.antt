-- Laws of all cores and the counter in lent bytes: zero bytes are the fresh ones, and what was stored is read back. Assumes nothing.
use Prim.Native.Nat.{ℕ, ◌<◌}
use mathlib.Core.Path.{◌≡◌}
use mathlib.Core.List.{List, [], ◌∷◌}
use native.Mathlib.Omega.{arith}
use native.Mathlib.Nat.{zero-add}
use lib.ListN.{length, set, replicate}
use Rattle.lent_words.specs.Words.{Lent, Bytes}
use Rattle.lent_words.proofs.Records.{each_constant, zero_word, zero_record, array_kept, each_set}
use Rattle.lent_words.proofs.InPlace.{word_rewritten}
use Rattle.exceptions.specs.declared.Core.{Core}
use Rattle.exceptions.specs.Registers.{fresh_core}
use Rattle.exceptions.proofs.InWords.{InWords}
use Rattle.lent_cores.specs.Layout.{wait_by_code, core_at, with_core, cores_at, counter_at, with_counter, counter_word, cores_size, core_length, held_core}
use Rattle.lent_cores.proofs.Records.{core_from, core_in, core_back, core_beside, core_of_lem, core_counter, core-bytes}

-- zero bytes are fresh cores
pub fresh_cores_lem : cores_at (replicate cores_size 0) ≡ replicate 8 fresh_core
unfolding cores_at fresh_core wait_by_code
fresh_cores_lem = each_constant (core_at (replicate cores_size 0)) (core_from (replicate core_length 0)) (λ i. zero_record (core_in i) cores_size) 0 8

-- zero bytes are a counter of zero
pub fresh_counter : counter_at (replicate cores_size 0) ≡ 0
unfolding counter_at
fresh_counter = zero_word cores_size counter_word

-- a core that was stored is read back, and the others are as they were
pub cores_back : (b : List ℕ) (i : ℕ) (c : Core) → Lent cores_size b → i < 8 → InWords c → cores_at (with_core b i c) ≡ set (cores_at b) i c
unfolding cores_at
cores_back b i c lent h words =
    each_set (core_at b) (core_at (with_core b i c)) c 0 8 i h (rw (zero-add i) (core_back b i c lent h words))
    (λ j d. core_beside b i c j words.registers (omega arith))

-- the counter leaves the cores as they were
pub counter_cores : (b : List ℕ) (n : ℕ) → cores_at (with_counter b n) ≡ cores_at b
unfolding cores_at with_counter
counter_cores b n = array_kept core_in b counter_word (n ∷ []) 8 (omega arith)

-- a core has 31 registers
pub core_registers : (b : List ℕ) (i : ℕ) → i < 8 → length (held_core b i).x ≡ 31
unfolding core_at
core_registers b i h = rw (core_of_lem b i fresh_core h)

-- the counter stored where it stands, beside a core, changes nothing
pub counter_kept : (b : List ℕ) (i : ℕ) (c : Core) → Bytes b → i < 8 → length c.x ≡ 31 → with_counter (with_core b i c) (counter_at b) ≡ with_core b i c
unfolding with_counter counter_at
counter_kept b i c bytes h registers =
    rw (← core_counter b i c h registers) (word_rewritten (with_core b i c) counter_word (core-bytes b i c bytes))
