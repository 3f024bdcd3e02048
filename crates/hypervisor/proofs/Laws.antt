-- Laws on the trap's parts that its functions' proofs cite. Assumes nothing.
use Prim.Native.Nat.{ℕ, ◌/◌, ◌^◌}
use lib.Bits.{bit_and}
use Rattle.bits.specs.Bits.{bits_at}
use Rattle.bits.proofs.Laws.{field}
use mathlib.Core.Path.{◌≡◌, refl}
use mathlib.Core.Bool.{Bool, true, false, cond}
use borrow.Author.Tests.{eqb-true, ne_eqb}
use lib.Dec.{eqb}
use Rattle.hypervisor.specs.declared.ExceptionClass.{ExceptionClass}
use Rattle.hypervisor.specs.declared.ExceptionClass.TheVariants.{HvcTrappedInAArch64, SmcTrappedInAArch64, DataAbortLowerEl, Unknown}
use mathlib.Core.List.{List}
use Rattle.lists.proofs.Laws.{cond_all}
use Rattle.stage2_range.specs.declared.MemoryAccessRegion.{MemoryAccessRegion}
use Rattle.exceptions.specs.declared.Conduit.{Conduit}
use Rattle.exceptions.specs.declared.Conduit.TheVariants.{Hvc, Smc}
use Rattle.exceptions.specs.declared.Core.{Core}
use Rattle.data_abort.specs.declared.TrapRegisters.{TrapRegisters}
use Rattle.data_abort.specs.DataAbort.{handle_data_abort}
use Rattle.forwarded_call.specs.ForwardedCall.{waits, forward_call}
use Rattle.core_answers.specs.declared.TrapStep.{TrapStep}
use Rattle.hypervisor.specs.Trap.{class_of, exception_class, by_class, handle_sync_lower}

-- what holds of each class where its EC is the one, holds of the class of an EC
pub by_class_lem : (P : ExceptionClass → Type 0) (class : ℕ) → (class ≡ 0x16 → P HvcTrappedInAArch64) → (class ≡ 0x17 → P SmcTrappedInAArch64)
    → (class ≡ 0x24 → P DataAbortLowerEl)
    → (eqb class 0x16 ≡ false → eqb class 0x17 ≡ false → eqb class 0x24 ≡ false → P Unknown) → P (class_of class)
by_class_lem P class hvc smc abort other = is_hvc (eqb class 0x16) refl
  where
    is_abort : eqb class 0x16 ≡ false → eqb class 0x17 ≡ false → (b : Bool) → eqb class 0x24 ≡ b → P (cond b DataAbortLowerEl Unknown)
    is_abort h s true e = abort (eqb-true class 0x24 e)
    is_abort h s false e = other h s e

    is_smc : eqb class 0x16 ≡ false → (b : Bool) → eqb class 0x17 ≡ b
        → P (cond b SmcTrappedInAArch64 (cond (eqb class 0x24) DataAbortLowerEl Unknown))
    is_smc h true e = smc (eqb-true class 0x17 e)
    is_smc h false e = is_abort h e (eqb class 0x24) refl

    is_hvc : (b : Bool) → eqb class 0x16 ≡ b
        → P (cond b HvcTrappedInAArch64 (cond (eqb class 0x17) SmcTrappedInAArch64 (cond (eqb class 0x24) DataAbortLowerEl Unknown)))
    is_hvc true e = hvc (eqb-true class 0x16 e)
    is_hvc false e = is_smc e (eqb class 0x17) refl

-- The class that bits 31:26 of a syndrome name, as the code reads them.
module _ (esr : ℕ) where
  read-class : exception_class esr ≡ class_of (bit_and (esr / 2 ^ 26) 63)
  unfolding exception_class
  read-class = let e : bit_and (esr / 2 ^ 26) 63 ≡ bits_at esr 26 6 = field esr 26 6 in rw e

  pub hvc_class : bit_and (esr / 2 ^ 26) 63 ≡ 0x16 → HvcTrappedInAArch64 ≡ exception_class esr
  hvc_class e = rw (read-class, e)

  pub smc_class : bit_and (esr / 2 ^ 26) 63 ≡ 0x17 → SmcTrappedInAArch64 ≡ exception_class esr
  smc_class e = rw (read-class, e)

  pub abort_class : bit_and (esr / 2 ^ 26) 63 ≡ 0x24 → DataAbortLowerEl ≡ exception_class esr
  abort_class e = rw (read-class, e)

  pub other_class : (bit_and (esr / 2 ^ 26) 63 ≡ 0x16 → ⊥) → (bit_and (esr / 2 ^ 26) 63 ≡ 0x17 → ⊥) → (bit_and (esr / 2 ^ 26) 63 ≡ 0x24 → ⊥) → Unknown ≡ exception_class esr
  other_class h s a = rw (read-class, ne_eqb _ 0x16 h, ne_eqb _ 0x17 s, ne_eqb _ 0x24 a)

-- what holds of the core and the counter as they were, after a forwarded call and after a data abort, holds after a trap
pub trap_all : (P : Core → ℕ → Type 0) (regions : List MemoryAccessRegion) (core : Core) (counter : ℕ) (trap : TrapRegisters) → P core counter
    → ((conduit : Conduit) → P (forward_call core conduit).core counter)
    → P (handle_data_abort regions core counter trap).core (handle_data_abort regions core counter trap).counter
    → P (handle_sync_lower regions core counter trap).core (handle_sync_lower regions core counter trap).counter
unfolding handle_sync_lower by_class
trap_all P regions core counter trap same call abort =
    cond_all (λ (s : TrapStep). P s.core s.counter) (waits core.wait) _ _ same (go (exception_class trap.esr))
  where
    go : (class : ExceptionClass) → P (by_class class regions core counter trap).core (by_class class regions core counter trap).counter
    go HvcTrappedInAArch64 = call Hvc
    go SmcTrappedInAArch64 = call Smc
    go DataAbortLowerEl = abort
    go Unknown = same
