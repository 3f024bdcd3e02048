-- The trap of one core (document 01, "Trap"). Assumes nothing.
use Rattle.std.specs.Prelude.{ℕ, cond, List, eqb}
use Rattle.bits.specs.Bits.{bits_at}
use Rattle.stage2_range.specs.declared.MemoryAccessRegion.{MemoryAccessRegion}
use Rattle.data_abort.specs.declared.TrapRegisters.{TrapRegisters}
use Rattle.data_abort.specs.DataAbort.{handle_data_abort}
use Rattle.forwarded_call.specs.ForwardedCall.{forward_call, waits}
use Rattle.exceptions.specs.declared.Core.{Core}
use Rattle.exceptions.specs.declared.Conduit.TheVariants.{Hvc, Smc}
use Rattle.core_answers.specs.declared.CoreError.TheVariants.{CoreWaiting, UnexpectedExceptionClass}
use Rattle.core_answers.specs.declared.TrapStep.{TrapStep}
use Rattle.core_answers.specs.Answers.{refused_trap}
use Rattle.forwarded_call.specs.declared.ForwardedCall.{ForwardedCall}
use Rattle.hypervisor.specs.declared.ExceptionClass.{ExceptionClass}
use Rattle.hypervisor.specs.declared.ExceptionClass.TheVariants.{HvcTrappedInAArch64, SmcTrappedInAArch64, DataAbortLowerEl, Unknown}

-- "EC is ESR bits 31:26"
abbrev pub ec : ℕ → ℕ
ec esr = bits_at esr 26 6

-- "EC 0x16 (HVC) or 0x17 (SMC)", "EC 0x24", and the others
abbrev pub class_of : ℕ → ExceptionClass
class_of ec =
    cond (eqb ec 0x16) HvcTrappedInAArch64
    (cond (eqb ec 0x17) SmcTrappedInAArch64
    (cond (eqb ec 0x24) DataAbortLowerEl
    Unknown))

unfoldable pub exception_class : ℕ → ExceptionClass
exception_class esr = class_of (ec esr)

-- a forwarded call, as a trap's step
abbrev pub forwarded : ForwardedCall → ℕ → TrapStep
forwarded call counter = record { result = call.result; core = call.core; counter = counter }

-- dispatch by the exception class; 12: "EC not 0x16, 0x17, 0x24"
unfoldable pub by_class : ExceptionClass → List MemoryAccessRegion → Core → ℕ → TrapRegisters → TrapStep
by_class HvcTrappedInAArch64 regions core counter trap = forwarded (forward_call core Hvc) counter
by_class SmcTrappedInAArch64 regions core counter trap = forwarded (forward_call core Smc) counter
by_class DataAbortLowerEl regions core counter trap = handle_data_abort regions core counter trap
by_class Unknown regions core counter trap = refused_trap UnexpectedExceptionClass core counter

-- the trap of one core, by the regions that are held; 11: "trap or save while waiting"
unfoldable pub handle_sync_lower : List MemoryAccessRegion → Core → ℕ → TrapRegisters → TrapStep
handle_sync_lower regions core counter trap =
    cond (waits core.wait) (refused_trap CoreWaiting core counter)
    (by_class (exception_class trap.esr) regions core counter trap)
