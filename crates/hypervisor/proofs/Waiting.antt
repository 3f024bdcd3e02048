-- What each step does to the wait of its core: a trap makes it wait exactly where it forwards, a reply ends that exactly where it is
-- accepted. Assumes nothing.
use Prim.Native.Nat.{ℕ}
use mathlib.Core.Path.{◌≡◌, refl}
use mathlib.Core.Bool.{true, cond}
use mathlib.Core.List.{List}
use Rattle.lists.proofs.Laws.{cond_all}
use Rattle.stage2_range.specs.declared.MemoryAccessRegion.{MemoryAccessRegion}
use Rattle.forwarded_call.specs.ForwardedCall.{waits}
use Rattle.forwarded_call.proofs.Laws.{forward_waits}
use Rattle.exceptions.specs.declared.Conduit.TheVariants.{Hvc, Smc}
use Rattle.exceptions.specs.declared.Core.{Core}
use Rattle.data_abort.specs.declared.TrapRegisters.{TrapRegisters}
use Rattle.data_abort.proofs.Laws.{abort_wait, abort-not-forwarded}
use Rattle.core_answers.specs.declared.CoreStep.{CoreStep}
use Rattle.core_answers.specs.declared.TrapStep.{TrapStep}
use Rattle.core_answers.specs.Answers.{is_forwarded}
use Rattle.hypervisor.specs.Trap.{ec, exception_class, by_class, handle_sync_lower}
use Rattle.hypervisor.specs.Cores.{save_core}
use Rattle.hypervisor.proofs.Laws.{by_class_lem}

pub save_wait : (core : Core) (x : List ℕ) (elr spsr : ℕ) → (save_core core x elr spsr).core.wait ≡ core.wait
unfolding save_core
save_wait core x elr spsr = cond_all (λ (s : CoreStep). s.core.wait ≡ core.wait) (waits core.wait) _ _ refl refl

abbrev TrapWaits : Core → TrapStep → Type 0
TrapWaits core s = waits s.core.wait ≡ cond (is_forwarded s.result.answer) true (waits core.wait)

pub trap_waits : (regions : List MemoryAccessRegion) (core : Core) (counter : ℕ) (trap : TrapRegisters)
    → TrapWaits core (handle_sync_lower regions core counter trap)
unfolding handle_sync_lower exception_class by_class
trap_waits regions core counter trap =
    cond_all (TrapWaits core) (waits core.wait) _ _ refl
    (by_class_lem (λ c. TrapWaits core (by_class c regions core counter trap)) (ec trap.esr)
    (λ e. rw ((forward_waits core Hvc).0, (forward_waits core Hvc).1))
    (λ e. rw ((forward_waits core Smc).0, (forward_waits core Smc).1))
    (λ e. rw (abort-not-forwarded regions core counter trap, abort_wait regions core counter trap))
    (λ hvc smc abort. refl))
