-- Each call on a core answers the number of the first case that it meets. Assumes nothing.
use Prim.Native.Nat.{ℕ}
use mathlib.Core.Path.{◌≡◌, ◌∙◌, ap}
use mathlib.Core.Bool.{Bool, not, cond, ◌&&◌, ◌||◌}
use mathlib.Core.List.{List}
use lib.Dec.{eqb, ltb}
use Rattle.lists.specs.Refusals.{first_met}
use Rattle.lists.proofs.Laws.{cond_map}
use Rattle.stage2.specs.declared.Policy.{Policy}
use Rattle.stage2.specs.Policy.{regions_held}
use Rattle.stage2_range.specs.declared.MemoryAccessRegion.{MemoryAccessRegion}
use Rattle.data_abort.specs.declared.TrapRegisters.{TrapRegisters}
use Rattle.data_abort.specs.DataAbort.{injection_due}
use Rattle.data_abort.proofs.Laws.{abort-number}
use Rattle.forwarded_call.specs.declared.HvcReply.{HvcReply}
use Rattle.forwarded_call.specs.ForwardedCall.{waits}
use Rattle.forwarded_call.proofs.Laws.{forward_number, reply_core-number}
use Rattle.exceptions.specs.declared.Conduit.TheVariants.{Hvc, Smc}
use Rattle.exceptions.specs.declared.Core.{Core}
use Rattle.exceptions.specs.Registers.{core_of}
use Rattle.core_answers.specs.declared.CoreStep.{CoreStep}
use Rattle.hypervisor.specs.declared.CoresStep.{CoresStep}
use Rattle.core_answers.specs.declared.TrapStep.{TrapStep}
use Rattle.hypervisor.specs.declared.Trapped.{Trapped}
use Rattle.core_answers.specs.Answers.{core_error_number, core_number, trap_number}
use Rattle.hypervisor.specs.Trap.{ec, class_of, exception_class, by_class, handle_sync_lower}
use Rattle.hypervisor.specs.Cores.{save_core, on_core, save_on, reply_on, trap_on, save_cases, reply_cases, trap_cases}
use Rattle.hypervisor.proofs.Laws.{by_class_lem}

-- 10 comes first, then what the core's own step meets
on_core-number : (cores : List Core) (i : ℕ) (step : Core → CoreStep)
    → core_number (on_core cores i step).answer ≡ cond (ltb 7 i) 10 (core_number (step (core_of cores i)).answer)
unfolding on_core
on_core-number cores i step = cond_map (λ (s : CoresStep). core_number s.answer) (ltb 7 i) _ _

-- "save 10, 11"
pub save_number : (cores : List Core) (i : ℕ) (x : List ℕ) (elr spsr : ℕ)
    → core_number (save_on cores i x elr spsr).answer ≡ first_met core_error_number 0 (save_cases cores i)
unfolding save_on save_core
save_number cores i x elr spsr =
    on_core-number cores i _
    ∙ ap (cond (ltb 7 i) 10) (cond_map (λ (s : CoreStep). core_number s.answer) (waits (core_of cores i).wait) _ _)

-- "reply 10, 14, 15"
pub reply-number : (cores : List Core) (i : ℕ) (reply : HvcReply)
    → core_number (reply_on cores i reply).answer ≡ first_met core_error_number 0 (reply_cases cores i reply.kind)
unfolding reply_on
reply-number cores i reply =
    let core = core_of cores i in
    on_core-number cores i _
    ∙ ap (cond (ltb 7 i) 10) (reply_core-number core reply)

-- 12 and 13, by the exception class
module _ (regions : List MemoryAccessRegion) (core : Core) (counter : ℕ) (trap : TrapRegisters) where
  abbrev refuses_abort : Bool
  refuses_abort = injection_due regions core counter trap && eqb trap.vbar 0

  class_number : (class : ℕ)
      → trap_number (by_class (class_of class) regions core counter trap).result.answer
      ≡ cond (not (eqb class 0x16 || eqb class 0x17 || eqb class 0x24)) 12 (cond (eqb class 0x24 && refuses_abort) 13 0)
  unfolding by_class
  class_number class =
      by_class_lem
      (λ c. trap_number (by_class c regions core counter trap).result.answer
      ≡ cond (not (eqb class 0x16 || eqb class 0x17 || eqb class 0x24)) 12 (cond (eqb class 0x24 && refuses_abort) 13 0))
      class
      (λ e. rw e (forward_number core Hvc))
      (λ e. rw e (forward_number core Smc))
      (λ e. rw e (abort-number regions core counter trap))
      (λ hvc smc abort. rw (hvc, smc, abort))

  step_number : trap_number (handle_sync_lower regions core counter trap).result.answer
      ≡ cond (waits core.wait) 11 (trap_number (by_class (class_of (ec trap.esr)) regions core counter trap).result.answer)
  unfolding handle_sync_lower exception_class
  step_number = cond_map (λ (s : TrapStep). trap_number s.result.answer) (waits core.wait) _ _

-- "trap 10 to 13"
pub trap_number_lem : (policy : Policy) (cores : List Core) (counter i : ℕ) (trap : TrapRegisters)
    → trap_number (trap_on policy cores counter i trap).result.answer ≡ first_met core_error_number 0 (trap_cases policy cores counter i trap)
unfolding trap_on
trap_number_lem policy cores counter i trap =
    let core = core_of cores i in
    let regions = regions_held policy in
    cond_map (λ (t : Trapped). trap_number t.result.answer) (ltb 7 i) _ _
    ∙ ap (cond (ltb 7 i) 10) (step_number regions core counter trap
    ∙ ap (cond (waits core.wait) 11) (class_number regions core counter trap (ec trap.esr)))
