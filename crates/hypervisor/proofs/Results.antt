-- What a trap gives its host: a call's values and hint where it forwards one, and else nothing but its answer. Assumes nothing.
use Prim.Native.Nat.{ℕ}
use mathlib.Core.Path.{◌≡◌, refl}
use mathlib.Core.Bool.{cond}
use mathlib.Core.List.{List}
use lib.ListN.{get_or}
use Rattle.lists.proofs.Laws.{cond_all}
use Rattle.stage2_range.specs.declared.MemoryAccessRegion.{MemoryAccessRegion}
use Rattle.exceptions.specs.declared.Core.{Core}
use Rattle.data_abort.specs.declared.TrapRegisters.{TrapRegisters}
use Rattle.data_abort.proofs.Laws.{abort-not-forwarded, abort-without_values}
use Rattle.forwarded_call.specs.ForwardedCall.{waits, guest_call, forwarded_result, forward_call}
use Rattle.core_answers.specs.declared.TrapStep.{TrapStep}
use Rattle.core_answers.specs.Answers.{is_forwarded, without_values}
use Rattle.hypervisor.specs.declared.ExceptionClass.{ExceptionClass}
use Rattle.hypervisor.specs.declared.ExceptionClass.TheVariants.{HvcTrappedInAArch64, SmcTrappedInAArch64, DataAbortLowerEl, Unknown}
use Rattle.hypervisor.specs.Trap.{exception_class, by_class, handle_sync_lower}

-- the values and the hint of a forwarded call are those of the core's x0, and every other answer has zeros: "(0 in other calls)"
abbrev HandsOut : Core → TrapStep → Type 0
HandsOut core s =
    s.result ≡ cond (is_forwarded s.result.answer) (forwarded_result (guest_call (get_or core.x 0 0)) core.x) (without_values s.result.answer)

pub trap_result : (regions : List MemoryAccessRegion) (core : Core) (counter : ℕ) (trap : TrapRegisters)
    → HandsOut core (handle_sync_lower regions core counter trap)
unfolding handle_sync_lower by_class forward_call
trap_result regions core counter trap = cond_all (HandsOut core) (waits core.wait) _ _ refl (go (exception_class trap.esr))
  where
    go : (class : ExceptionClass) → HandsOut core (by_class class regions core counter trap)
    go HvcTrappedInAArch64 = refl
    go SmcTrappedInAArch64 = refl
    go DataAbortLowerEl = rw (abort-not-forwarded regions core counter trap) (abort-without_values regions core counter trap)
    go Unknown = refl
