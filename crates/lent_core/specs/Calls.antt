-- What the calls on a core's registers leave in the bytes that a host lends, by the definitions that the library's own contracts cite. Any
-- bytes are a state. Assumes nothing.
use Rattle.std.specs.Prelude.{ℕ, cond, List, [], ◌∷◌, ltb}
use Rattle.exceptions.specs.Registers.{core_of, read_gpr, read_number, read_value, write_gpr, write_number}
use Rattle.core_answers.specs.Answers.{core_number}
use Rattle.hypervisor.specs.declared.CoresStep.{CoresStep}
use Rattle.hypervisor.specs.Cores.{save_on}
use Rattle.lent_words.specs.Words.{word_at, words_at, bytes_of, Left, unless_refused}
use Rattle.lent_cores.specs.Layout.{elr_word, spsr_word, cores_at, held_core, with_core}

-- a save or a reply: its core's words are written, and no byte of another core
unfoldable pub stepped_core : List ℕ → ℕ → CoresStep → Left
stepped_core cores i step =
    let number = core_number step.answer in
    record { number = number; state = unless_refused number cores (with_core cores i (core_of step.cores i)); result = [] }

-- `save`: x0 to x30, ELR and SPSR are the words of the registers
unfoldable pub save_call : List ℕ → ℕ → List ℕ → Left
save_call cores i registers =
    stepped_core cores i (save_on (cores_at cores) i (words_at registers 0 31) (word_at registers elr_word) (word_at registers spsr_word))

-- 10 "number above 7", else the number of a call on one of the eight
abbrev pub on_eight : ℕ → ℕ → ℕ
on_eight i number = cond (ltb 7 i) 10 number

-- `read_gpr`
unfoldable pub read_call : List ℕ → ℕ → ℕ → Left
read_call cores i index =
    let read = read_gpr (held_core cores i) index in
    record {
      number = on_eight i (read_number read);
      state = cores;
      result = bytes_of (cond (ltb 7 i) 0 (read_value read) ∷ []);
    }

-- `write_gpr`
unfoldable pub write_call : List ℕ → ℕ → ℕ → ℕ → Left
write_call cores i index value =
    let written = write_gpr (held_core cores i) index value in
    let number = on_eight i (write_number written.answer) in
    record { number = number; state = unless_refused number cores (with_core cores i written.core); result = [] }
