-- Where the words of the cores and of the counter stand in the bytes that a host lends. Any bytes are eight cores. Assumes nothing.
use Rattle.std.specs.Prelude.{ℕ, ◌+◌, ◌*◌, cond, List, [], ◌∷◌, ◌++◌, ltb, length, get_or, None, Ok, Some}
use Rattle.lent_words.specs.Words.{word_at, with_word, each, words_at, with_words, kept_code}
use Rattle.exceptions.specs.declared.Conduit.TheVariants.{Hvc, Smc}
use Rattle.exceptions.specs.declared.Recipient.TheVariants.{Firmware, Platform}
use Rattle.exceptions.specs.Registers.{Wait}
use Rattle.exceptions.specs.declared.Core.{Core}
use Rattle.exceptions.specs.declared.FaultRegisters.{FaultRegisters}
use Rattle.exceptions.specs.Registers.{core_of}
use Rattle.core_answers.specs.declared.TrapAnswer.TheVariants.{AbortInjected}
use Rattle.core_answers.specs.Answers.{without_values, result_words}

-- what a core waits for, by its code; an unknown code is nothing
abbrev pub wait_codes : List Wait
wait_codes = None ∷ Some (Hvc, Firmware) ∷ Some (Hvc, Platform) ∷ Some (Smc, Firmware) ∷ Some (Smc, Platform) ∷ []

unfoldable pub wait_by_code : ℕ → Wait
wait_by_code code = get_or wait_codes code None

abbrev pub wait_number : Wait → ℕ
wait_number None = 0
wait_number (Some (Hvc, Firmware)) = 1
wait_number (Some (Hvc, Platform)) = 2
wait_number (Some (Smc, Firmware)) = 3
wait_number (Some (Smc, Platform)) = 4

-- the words of a core: x0 to x30, ELR, SPSR, ELR_EL1, SPSR_EL1, FAR_EL1, ESR_EL1 and the code of what it waits for
abbrev pub elr_word : ℕ
elr_word = 31

abbrev pub spsr_word : ℕ
spsr_word = 32

abbrev pub elr_el1_word : ℕ
elr_el1_word = 33

abbrev pub spsr_el1_word : ℕ
spsr_el1_word = 34

abbrev pub far_el1_word : ℕ
far_el1_word = 35

abbrev pub esr_el1_word : ℕ
esr_el1_word = 36

abbrev pub wait_word : ℕ
wait_word = 37

abbrev pub core_length : ℕ
core_length = 38

-- the eight cores stand from word 0 on, the counter of the filtered MMIO page after them
abbrev pub counter_word : ℕ
counter_word = 8 * core_length

-- the lengths of the lent buffers, in bytes: the cores with the counter, the registers of a save, the result of a trap
abbrev pub cores_size : ℕ
cores_size = 8 * (counter_word + 1)

abbrev pub registers_size : ℕ
registers_size = 8 * (spsr_word + 1)

abbrev pub trap_result_size : ℕ
trap_result_size = 8 * length (result_words (without_values (Ok AbortInjected)))

unfoldable pub core_at : List ℕ → ℕ → Core
core_at cores i =
    let at = core_length * i in
    record {
      x = words_at cores at 31;
      elr = word_at cores (at + elr_word);
      spsr = word_at cores (at + spsr_word);
      el1 = record {
        elr = word_at cores (at + elr_el1_word);
        spsr = word_at cores (at + spsr_el1_word);
        far = word_at cores (at + far_el1_word);
        esr = word_at cores (at + esr_el1_word);
      };
      wait = wait_by_code (word_at cores (at + wait_word));
    }

abbrev pub fault_words : FaultRegisters → List ℕ
fault_words el1 = el1.elr ∷ el1.spsr ∷ el1.far ∷ el1.esr ∷ []

unfoldable pub with_core : List ℕ → ℕ → Core → List ℕ
with_core cores i core =
    let at = core_length * i in
    let wait = kept_code (length wait_codes) (word_at cores (at + wait_word)) (wait_number core.wait) in
    with_words cores at (core.x ++ (core.elr ∷ core.spsr ∷ (fault_words core.el1 ++ (wait ∷ []))))

-- the eight cores that the bytes hold
unfoldable pub cores_at : List ℕ → List Core
cores_at cores = each (core_at cores) 0 8

-- a core by its number, a fresh one where there is none of that number
abbrev pub held_core : List ℕ → ℕ → Core
held_core cores i = core_of (cores_at cores) i

-- the bytes with a core stored, and as they were where there is none of that number
abbrev pub stored_core : List ℕ → ℕ → Core → List ℕ
stored_core cores i core = cond (ltb 7 i) cores (with_core cores i core)

-- the same of one word of a core
abbrev pub held_word : List ℕ → ℕ → ℕ → ℕ
held_word cores i word = cond (ltb 7 i) 0 (word_at cores (core_length * i + word))

abbrev pub stored_word : List ℕ → ℕ → ℕ → ℕ → List ℕ
stored_word cores i word value = cond (ltb 7 i) cores (with_word cores (core_length * i + word) value)

unfoldable pub counter_at : List ℕ → ℕ
counter_at cores = word_at cores counter_word

unfoldable pub with_counter : List ℕ → ℕ → List ℕ
with_counter cores counter = with_word cores counter_word counter
