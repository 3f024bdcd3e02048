-- A call on a core that is refused changes nothing, and a refused trap has no other result than its number. Assumes nothing.
use Prim.Native.Nat.{ℕ}
use mathlib.Core.Path.{◌≡◌, refl}
use mathlib.Core.List.{List}
use lib.Dec.{ltb}
use lib.Seq.{set-get_or}
use Rattle.lists.proofs.Laws.{cond_all}
use Rattle.stage2.specs.declared.Policy.{Policy}
use Rattle.stage2.specs.Policy.{regions_held}
use Rattle.stage2_range.specs.declared.MemoryAccessRegion.{MemoryAccessRegion}
use Rattle.forwarded_call.specs.declared.HvcReply.{HvcReply}
use Rattle.forwarded_call.specs.ForwardedCall.{waits}
use Rattle.forwarded_call.proofs.Laws.{forward_number, reply-done}
use Rattle.exceptions.specs.declared.Conduit.TheVariants.{Hvc, Smc}
use Rattle.exceptions.specs.declared.Core.{Core}
use Rattle.exceptions.specs.Registers.{fresh_core, core_of}
use Rattle.data_abort.specs.declared.TrapRegisters.{TrapRegisters}
use Rattle.data_abort.proofs.Laws.{abort_refused}
use Rattle.core_answers.specs.declared.CoreError.{CoreError}
use Rattle.core_answers.specs.declared.CoreError.TheVariants.{NoSuchCore, CoreWaiting, UnexpectedExceptionClass}
use Rattle.core_answers.specs.declared.CoreStep.{CoreStep}
use Rattle.core_answers.specs.declared.TrapStep.{TrapStep}
use Rattle.core_answers.specs.Answers.{core_number, trap_number, without_values, refused_trap}
use Rattle.hypervisor.specs.declared.CoresStep.{CoresStep}
use Rattle.hypervisor.specs.declared.Trapped.{Trapped}
use Rattle.hypervisor.specs.Trap.{ec, exception_class, by_class, handle_sync_lower}
use Rattle.hypervisor.specs.Cores.{save_core, on_core, save_on, reply_on, trap_on}
use Rattle.hypervisor.proofs.Laws.{by_class_lem}
use Rattle.std.specs.Prelude.{Err}

-- a save or a reply of one core
abbrev CoreKept : Core → CoreStep → Type 0
CoreKept core s = (core_number s.answer ≡ 0 → ⊥) → s.core ≡ core

-- of one of the eight, it leaves them all
on_core_kept : (cores : List Core) (i : ℕ) (step : Core → CoreStep) → CoreKept (core_of cores i) (step (core_of cores i))
    → (core_number (on_core cores i step).answer ≡ 0 → ⊥) → (on_core cores i step).cores ≡ cores
unfolding on_core
on_core_kept cores i step kept =
    cond_all (λ (s : CoresStep). (core_number s.answer ≡ 0 → ⊥) → s.cores ≡ cores) (ltb 7 i) _ _
    (λ h. refl)
    (λ h. rw (kept h) (set-get_or cores i fresh_core))

pub save_refused : (cores : List Core) (i : ℕ) (x : List ℕ) (elr spsr : ℕ)
    → (core_number (save_on cores i x elr spsr).answer ≡ 0 → ⊥) → (save_on cores i x elr spsr).cores ≡ cores
unfolding save_on save_core
save_refused cores i x elr spsr =
    let core = core_of cores i in
    on_core_kept cores i _ (cond_all (CoreKept core) (waits core.wait) _ _ (λ h. refl) (λ h. absurd (h refl)))

pub reply-refused : (cores : List Core) (i : ℕ) (reply : HvcReply)
    → (core_number (reply_on cores i reply).answer ≡ 0 → ⊥) → (reply_on cores i reply).cores ≡ cores
unfolding reply_on
reply-refused cores i reply = on_core_kept cores i _ (reply-done (core_of cores i) reply).refused_keeps

-- a refused trap of one core is a refusal and nothing else
abbrev TrapKept : Core → ℕ → TrapStep → Type 0
TrapKept core counter s = (trap_number s.result.answer ≡ 0 → ⊥) → (error : CoreError) × (s ≡ refused_trap error core counter)

step_refused : (regions : List MemoryAccessRegion) (core : Core) (counter : ℕ) (trap : TrapRegisters)
    → TrapKept core counter (handle_sync_lower regions core counter trap)
unfolding handle_sync_lower exception_class by_class
step_refused regions core counter trap =
    cond_all (TrapKept core counter) (waits core.wait) _ _ (λ h. (CoreWaiting, refl))
    (by_class_lem (λ c. TrapKept core counter (by_class c regions core counter trap)) (ec trap.esr)
    (λ e h. absurd (h (forward_number core Hvc)))
    (λ e h. absurd (h (forward_number core Smc)))
    (λ e. abort_refused regions core counter trap)
    (λ hvc smc abort h. (UnexpectedExceptionClass, refl)))

-- and of one of the eight
pub trap_refused : (policy : Policy) (cores : List Core) (counter i : ℕ) (trap : TrapRegisters)
    → (trap_number (trap_on policy cores counter i trap).result.answer ≡ 0 → ⊥)
    → (error : CoreError)
    × (trap_on policy cores counter i trap ≡ record { result = without_values (Err error); policy = policy; cores = cores; counter = counter })
unfolding trap_on
trap_refused policy cores counter i trap =
    cond_all
    (λ (t : Trapped). (trap_number t.result.answer ≡ 0 → ⊥)
    → (error : CoreError) × (t ≡ record { result = without_values (Err error); policy = policy; cores = cores; counter = counter }))
    (ltb 7 i) _ _
    (λ h. (NoSuchCore, refl))
    (λ h.
    let kept = step_refused (regions_held policy) (core_of cores i) counter trap h in
    (kept.0, rw (kept.1, set-get_or cores i fresh_core)))
