-- One core's trap that loads the counter word answers from the counter and makes it grow by 1; any other neither depends on the counter nor
-- changes it. Assumes nothing.
use Prim.Native.Nat.{ℕ, ◌+◌, ◌%◌, ◌^◌}
use mathlib.Core.Path.{◌≡◌, refl}
use mathlib.Core.Bool.{Bool, true, false, cond}
use mathlib.Core.List.{List}
use Rattle.memory_access.specs.declared.MemoryAccessKind.TheVariants.{Read}
use Rattle.memory_access.specs.Syndrome.{access_of}
use Rattle.memory_access.specs.Transfer.{extend_read_result}
use Rattle.stage2_range.specs.declared.MemoryAccessRegion.{MemoryAccessRegion}
use Rattle.exceptions.specs.declared.Core.{Core}
use Rattle.exceptions.specs.Registers.{advance_pc, write_gpr}
use Rattle.forwarded_call.specs.ForwardedCall.{waits}
use Rattle.data_abort.specs.declared.TrapRegisters.{TrapRegisters}
use Rattle.data_abort.specs.DataAbort.{iss}
use Rattle.data_abort.specs.CounterLoad.{CounterLoad}
use Rattle.data_abort.proofs.CounterLoad.{counter_answered, counter_unused}
use Rattle.core_answers.specs.declared.CoreError.TheVariants.{CoreWaiting}
use Rattle.core_answers.specs.declared.TrapAnswer.TheVariants.{AccessHandled}
use Rattle.core_answers.specs.declared.TrapStep.{TrapStep}
use Rattle.core_answers.specs.Answers.{answered, refused_trap}
use Rattle.hypervisor.specs.Trap.{ec, class_of, exception_class, by_class, handle_sync_lower}
use Rattle.hypervisor.proofs.Laws.{by_class_lem}
use Rattle.std.specs.Prelude.{Ok}

-- the core after a load of the counter word: Rt has the counter as it was, and ELR grows
abbrev pub counter_read : Core → ℕ → TrapRegisters → Core
counter_read core counter trap =
    let access = access_of (iss trap.esr) trap.fipa trap.far in
    advance_pc (write_gpr core access.register_index (extend_read_result access counter)).core

-- One core's trap, on any regions: idle, with EC 0x24 and a load of the counter word.
pub record StepLoads (regions : List MemoryAccessRegion) (core : Core) (trap : TrapRegisters) : Type 0 where
  pub idle : waits core.wait ≡ false
  pub class : ec trap.esr ≡ 0x24
  pub access : CounterLoad regions trap

module _ (regions : List MemoryAccessRegion) (core : Core) (trap : TrapRegisters) where
  pub step_loads : (counter : ℕ) → StepLoads regions core trap
      → handle_sync_lower regions core counter trap
      ≡ answered (Ok (AccessHandled Read)) (counter_read core counter trap) ((counter + 1) % 2 ^ 64)
  unfolding handle_sync_lower exception_class by_class
  step_loads counter l = rw (l.idle, l.class, counter_answered regions core counter trap l.access)

  abbrev Steady : (ℕ → TrapStep) → Type 0
  Steady f = (counter counter' : ℕ) → f counter ≡ record { result = (f counter').result; core = (f counter').core; counter = counter }

  class_steady : (class : ℕ) → (class ≡ 0x24 → CounterLoad regions trap → ⊥)
      → Steady (λ counter. by_class (class_of class) regions core counter trap)
  unfolding by_class
  class_steady class none =
      by_class_lem (λ c. Steady (λ counter. by_class c regions core counter trap)) class
      (λ e counter counter'. refl)
      (λ e counter counter'. refl)
      (λ e. counter_unused regions core trap (none e))
      (λ hvc smc abort counter counter'. refl)

  pub step_steady : (StepLoads regions core trap → ⊥) → Steady (λ counter. handle_sync_lower regions core counter trap)
  unfolding handle_sync_lower exception_class
  step_steady none = go (waits core.wait) refl
    where
      go : (b : Bool) → waits core.wait ≡ b
          → Steady (λ counter. cond b (refused_trap CoreWaiting core counter) (by_class (class_of (ec trap.esr)) regions core counter trap))
      go true e = λ counter counter'. refl
      go false e = class_steady (ec trap.esr) (λ class access. none (record { idle = e; class = class; access = access }))
