-- A core's saved registers (document 01, "Core"). Assumes nothing.
use Rattle.std.specs.Prelude.{ℕ, ◌+◌, ◌%◌, ◌^◌, cond, List, replicate, ◌==◌, nat_lt, slice_index, slice_index_or, slice_set, Err, None, Ok, Option, Result, Some, ⊤, unwrap_or}
use Rattle.lists.specs.Refusals.{answer_number, missing_number}
use Rattle.exceptions.specs.declared.Conduit.{Conduit}
use Rattle.exceptions.specs.declared.Recipient.{Recipient}
use Rattle.exceptions.specs.declared.Core.{Core}
use Rattle.exceptions.specs.declared.FaultRegisters.{FaultRegisters}
use Rattle.exceptions.specs.declared.GprWritten.{GprWritten}
use Rattle.exceptions.specs.declared.GuestRegisterWriteError.{GuestRegisterWriteError}

-- what a core waits for: nothing, or a call by a conduit to a recipient
abbrev pub Wait : Type 0
Wait = Option (Conduit × Recipient)

-- "a fresh core is all zero and waits for nothing"
unfoldable pub fresh_core : Core
fresh_core = record {
  x = replicate 31 0;
  elr = 0;
  spsr = 0;
  el1 = record { elr = 0; spsr = 0; far = 0; esr = 0 };
  wait = None;
}

-- a core by its number; a fresh one where there is none of that number
abbrev pub core_of : List Core → ℕ → Core
core_of cores i = slice_index_or cores i fresh_core

-- "ELR grows by 4 modulo 2^64"
abbrev pub next_instruction : ℕ → ℕ
next_instruction elr = (elr + 4) % 2 ^ 64

-- the core with other registers x0 to x30
unfoldable pub with_registers : Core → List ℕ → Core
with_registers core x = record { x = x; elr = core.elr; spsr = core.spsr; el1 = core.el1; wait = core.wait }

-- the core with another ELR and SPSR and other EL1 registers: where it goes on, and with what
abbrev pub with_return : Core → ℕ → ℕ → FaultRegisters → Core
with_return core elr spsr el1 = record { x = core.x; elr = elr; spsr = spsr; el1 = el1; wait = core.wait }

-- the core past the instruction that trapped
unfoldable pub advance_pc : Core → Core
advance_pc core = with_return core (next_instruction core.elr) core.spsr core.el1

-- "Registers x0 to x30"; index 31 "reads 0"; an index above 31 is refused
unfoldable pub read_gpr : Core → ℕ → Option ℕ
read_gpr core index =
    cond (nat_lt index 31) (Some (slice_index core.x index))
    (cond (index == 31) (Some 0)
    None)

-- the one refusal of a write
abbrev pub write_error : GuestRegisterWriteError
write_error = record {}

-- index 31 "takes no write"; an index above 31 is refused, and the core is as it was
unfoldable pub write_gpr : Core → ℕ → ℕ → GprWritten
write_gpr core index value =
    cond (nat_lt index 31) (record { answer = Ok tt; core = with_registers core (slice_set core.x index value) })
    (cond (index == 31) (record { answer = Ok tt; core = core })
    (record { answer = Err write_error; core = core }))

-- the number of a read's answer in document 01's table: 17 "index above 31"
abbrev pub read_number : Option ℕ → ℕ
read_number answer = missing_number 17 answer

-- the number of a write's refusal: 17 "index above 31"
abbrev pub write_error_number : GuestRegisterWriteError → ℕ
write_error_number error = 17

-- the number of a write's answer
abbrev pub write_number : Result ⊤ GuestRegisterWriteError → ℕ
write_number answer = answer_number write_error_number answer

-- the result field of a read: zero in a refusal. A write has none.
abbrev pub read_value : Option ℕ → ℕ
read_value answer = unwrap_or answer 0
