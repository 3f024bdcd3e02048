-- Save, reply and trap, on one core and on one of eight (document 01, "Core", "Reply", "Trap"). Assumes nothing.
use Rattle.std.specs.Prelude.{ℕ, not, cond, ◌&&◌, ◌||◌, List, [], ◌∷◌, eqb, ltb, set, replicate, Err, Ok}
use Rattle.lists.specs.Refusals.{Case, case}
use Rattle.data_abort.specs.declared.TrapRegisters.{TrapRegisters}
use Rattle.data_abort.specs.DataAbort.{injection_due}
use Rattle.forwarded_call.specs.declared.HvcReply.{HvcReply}
use Rattle.forwarded_call.specs.ForwardedCall.{waits, waits_for_firmware, reply_core}
use Rattle.exceptions.specs.declared.Core.{Core}
use Rattle.exceptions.specs.Registers.{fresh_core, core_of}
use Rattle.stage2.specs.declared.Policy.{Policy}
use Rattle.stage2.specs.Policy.{regions_held}
use Rattle.core_answers.specs.declared.CoreError.{CoreError}
use Rattle.core_answers.specs.declared.CoreError.TheVariants.{NoSuchCore, CoreWaiting, UnexpectedExceptionClass, NoGuestVector, NothingWaiting, UnknownReplyKind}
use Rattle.core_answers.specs.declared.CoreStep.{CoreStep}
use Rattle.hypervisor.specs.declared.CoresStep.{CoresStep}
use Rattle.core_answers.specs.declared.TrapStep.{TrapStep}
use Rattle.hypervisor.specs.declared.Trapped.{Trapped}
use Rattle.core_answers.specs.Answers.{without_values, refused_core}
use Rattle.hypervisor.specs.Trap.{ec, handle_sync_lower}

-- "There are 8 cores", each fresh
unfoldable pub fresh_cores : List Core
fresh_cores = replicate 8 fresh_core

-- "A save step .. puts in x0 to x30, ELR and SPSR as the hardware saved them"; 11: "trap or save while waiting"
unfoldable pub save_core : Core → List ℕ → ℕ → ℕ → CoreStep
save_core core x elr spsr =
    cond (waits core.wait) (refused_core CoreWaiting core)
    (record { answer = Ok tt; core = record { x = x; elr = elr; spsr = spsr; el1 = core.el1; wait = core.wait } })

-- 10: "number above 7"
abbrev pub no_such_core : List Core → CoresStep
no_such_core cores = record { answer = Err NoSuchCore; cores = cores }

-- "one core replaced per step"
abbrev pub placed : List Core → ℕ → CoreStep → CoresStep
placed cores i step = record { answer = step.answer; cores = set cores i step.core }

-- a step of one of the eight
unfoldable pub on_core : List Core → ℕ → (Core → CoreStep) → CoresStep
on_core cores i step = cond (ltb 7 i) (no_such_core cores) (placed cores i (step (core_of cores i)))

-- `save`: "save 10, 11"
unfoldable pub save_on : List Core → ℕ → List ℕ → ℕ → ℕ → CoresStep
save_on cores i x elr spsr = on_core cores i (λ core. save_core core x elr spsr)

-- `reply`: "reply 10, 14, 15"
unfoldable pub reply_on : List Core → ℕ → HvcReply → CoresStep
reply_on cores i reply = on_core cores i (λ core. reply_core core reply)

-- a trap's step, of one of the eight
abbrev pub trapped_by : TrapStep → Policy → List Core → ℕ → Trapped
trapped_by step policy cores i = record { result = step.result; policy = policy; cores = set cores i step.core; counter = step.counter }

-- `trap`: "trap 10 to 13"
unfoldable pub trap_on : Policy → List Core → ℕ → ℕ → TrapRegisters → Trapped
trap_on policy cores counter i trap =
    cond (ltb 7 i)
    (record { result = without_values (Err NoSuchCore); policy = policy; cores = cores; counter = counter })
    (trapped_by (handle_sync_lower (regions_held policy) (core_of cores i) counter trap) policy cores i)

-- the lines of the table that `save` meets: "save 10, 11"
abbrev pub save_cases : List Core → ℕ → List (Case CoreError)
save_cases cores i = case NoSuchCore (ltb 7 i) ∷ case CoreWaiting (waits (core_of cores i).wait) ∷ []

-- the lines of the table that `reply` meets: "reply 10, 14, 15"
abbrev pub reply_cases : List Core → ℕ → ℕ → List (Case CoreError)
reply_cases cores i kind =
    let wait = (core_of cores i).wait in
    case NoSuchCore (ltb 7 i)
    ∷ case NothingWaiting (not (waits wait))
    ∷ case UnknownReplyKind (ltb 4 kind || (waits_for_firmware wait && not (eqb kind 1 || eqb kind 4)))
    ∷ []

-- the lines of the table that `trap` meets: "trap 10 to 13"
abbrev pub trap_cases : Policy → List Core → ℕ → ℕ → TrapRegisters → List (Case CoreError)
trap_cases policy cores counter i trap =
    let core = core_of cores i in
    let class = ec trap.esr in
    case NoSuchCore (ltb 7 i)
    ∷ case CoreWaiting (waits core.wait)
    ∷ case UnexpectedExceptionClass (not (eqb class 0x16 || eqb class 0x17 || eqb class 0x24))
    ∷ case NoGuestVector (eqb class 0x24 && (injection_due (regions_held policy) core counter trap && eqb trap.vbar 0))
    ∷ []
