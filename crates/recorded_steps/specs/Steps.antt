-- The calls that records name on the cores: 4 to 7 and 16, and their state, f, 10 and 14. Assumes nothing.
use Rattle.std.specs.Prelude.{ℕ, ◌^◌, cond, eqb, ltb, get_or, set, take, drop, fold}
use mathlib.Core.List.{List, [], ◌∷◌, ◌++◌}
use Rattle.records.specs.declared.Record.{Record}
use Rattle.records.specs.declared.Call.{Call}
use Rattle.records.specs.Records.{expected, no_record, place_compared}
use Rattle.memory_access.specs.Transfer.{twos_complement}
use Rattle.stage2.specs.declared.Policy.{Policy}
use Rattle.exceptions.specs.declared.Core.{Core}
use Rattle.exceptions.specs.Registers.{read_gpr, read_number, read_value, write_gpr, write_number, core_of, fresh_core}
use Rattle.forwarded_call.specs.declared.HvcReply.{HvcReply}
use Rattle.hypervisor.specs.declared.CoresStep.{CoresStep}
use Rattle.hypervisor.specs.declared.Trapped.{Trapped}
use Rattle.core_answers.specs.Answers.{core_number, trap_number, result_words}
use Rattle.hypervisor.specs.Cores.{fresh_cores, save_on, reply_on, trap_on}
use Rattle.records.specs.declared.Taken.{Taken}
use Rattle.recorded_steps.specs.declared.CoresState.{CoresState}
use Rattle.hvc_response.specs.Response.{reply_length}

-- these cores, with this counter
abbrev pub state_of : List Core → ℕ → CoresState
state_of cores counter = record { cores = cores; counter = counter }

-- fresh cores, with this counter
abbrev pub fresh_state : ℕ → CoresState
fresh_state counter = state_of fresh_cores counter

-- a record that is compared, with cores and counter
abbrev pub passed : Record → CoresState → Taken CoresState
passed r state = record { compared = r; state = state }

-- the save that a record names: x0 to x30 are its fields from place 2 on, ELR and SPSR the two after them
abbrev pub save_made : List Core → Record → ℕ → CoresStep
save_made cores r core = save_on cores core (take 31 (drop 2 r.fields)) (get_or r.fields 33 0) (get_or r.fields 34 0)

-- what a save or a reply comes to: its number
abbrev pub step_taken : Record → ℕ → CoresStep → Taken CoresState
step_taken r counter step = passed (expected r (core_number step.answer)) (state_of step.cores counter)

-- the trap that a record names
abbrev pub trap_made : Policy → CoresState → Call → Trapped
trap_made policy state call =
    trap_on policy state.cores state.counter call.a (record { esr = call.b; fipa = record { 0 = call.c }; far = call.d; vbar = call.e })

-- what a trap comes to: number, kind, values, hint
abbrev pub trap_taken : Record → Trapped → Taken CoresState
trap_taken r step =
    passed (fold expected r (trap_number step.result.answer ∷ result_words step.result)) (state_of step.cores step.counter)

-- the reply that a record names: its values are the fields from place 3 on, and after them its error, 32 bits of two's complement; a line
-- with a wider one is no record
abbrev pub reply_taken : CoresState → Record → Call → Taken CoresState
reply_taken state r call =
    let error = get_or r.fields 21 0 in
    let reply : HvcReply = record { kind = call.b; values = take reply_length (drop 3 r.fields); error = twos_complement 32 error } in
    cond (ltb error (2 ^ 32)) (step_taken r state.counter (reply_on state.cores call.a reply)) (passed (no_record r) state)

-- a register written, in either form: number; a line that names a core above 7 is no record
abbrev pub write_taken : CoresState → Record → Call → Taken CoresState
write_taken state r call =
    cond (ltb call.a 8)
    (let written = write_gpr (core_of state.cores call.a) call.b call.c in
    passed (expected r (write_number written.answer)) (state_of (set state.cores call.a written.core) state.counter))
    (passed (no_record r) state)

-- a register read: number and value
abbrev pub gpr_words : ℕ → Core → List ℕ
gpr_words index core = read_number (read_gpr core index) ∷ read_value (read_gpr core index) ∷ []

-- a core's state: x0 to x30, ELR, SPSR, and the four registers of EL1
abbrev pub core_words : Core → List ℕ
core_words core =
    core.x
    ++ core.elr
    ∷ core.spsr
    ∷ core.el1.elr
    ∷ core.el1.spsr
    ∷ core.el1.far
    ∷ core.el1.esr
    ∷ []

-- the records that leave the cores as they are: f a core's state, 10 the counter, 14 a register
unfoldable pub core_read : CoresState → Record → Call → Record
core_read state r call =
    cond (eqb call.code 0xF) (place_compared 8 state.cores fresh_core core_words r call.a)
    (cond (eqb call.code 0x10) (expected r state.counter)
    (cond (eqb call.code 0x14) (place_compared 8 state.cores fresh_core (gpr_words call.b) r call.a)
    r))

-- 0 is fresh cores and a counter, 4 saves, 5 traps, 6 replies, 7 and 16 write a register; a record of something else passes
unfoldable pub cores_taken : Policy → CoresState → Record → Call → Taken CoresState
cores_taken policy state r call =
    cond (eqb call.code 0) (passed r (fresh_state call.a))
    (cond (eqb call.code 4) (step_taken r state.counter (save_made state.cores r call.a))
    (cond (eqb call.code 5) (trap_taken r (trap_made policy state call))
    (cond (eqb call.code 6) (reply_taken state r call)
    (cond (eqb call.code 7) (write_taken state r call)
    (cond (eqb call.code 0x16) (write_taken state r call)
    (passed (core_read state r call) state))))))
