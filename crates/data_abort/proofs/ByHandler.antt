-- A data abort by the handler for its direction: what each of the three does, and when an injection is due. Assumes nothing.
use Rattle.std.proofs.Common.{◌≡◌, ℕ, Bool, true, false, not, ◌||◌, ◌⊎◌, List, sym, refl, ◌∙◌, inl, inr, true≢false}
use Rattle.memory_access.specs.declared.MemoryAccess.{MemoryAccess}
use Rattle.memory_access.specs.declared.MemoryAccessKind.{MemoryAccessKind}
use Rattle.memory_access.specs.declared.MemoryAccessKind.TheVariants.{Read, Write}
use Rattle.memory_access.specs.Syndrome.{isv, wnr}
use Rattle.stage2_range.specs.declared.MemoryAccessRegion.{MemoryAccessRegion}
use Rattle.stage2_range.specs.declared.MemoryAccessHandlerMatch.{MemoryAccessHandlerMatch}
use Rattle.stage2_range.specs.declared.MemoryHandler.{MemoryHandler}
use Rattle.stage2_range.specs.declared.MemoryHandler.TheVariants.{Absent, FilteredMmio, Fault}
use Rattle.stage2_range.specs.Registry.{find_region}
use Rattle.exceptions.specs.declared.Core.{Core}
use Rattle.exceptions.specs.Registers.{advance_pc, read_gpr, read_value, write_gpr}
use Rattle.core_answers.specs.declared.TrapAnswer.TheVariants.{AccessHandled}
use Rattle.core_answers.specs.Answers.{answered}
use Rattle.data_abort.specs.declared.TrapRegisters.{TrapRegisters}
use Rattle.data_abort.specs.DataAbort.{iss, access_by, no_isv, handler_for, device_fault, faults_through, not_handled, injection_due, inject_data_abort, handle_data_abort}
use Rattle.data_abort.proofs.Laws.{by_cases}
use Rattle.data_abort.proofs.CounterLoad.{Steady, counter_unused}
use Rattle.std.specs.Prelude.{None, Ok, Option, Some}

either : (b : Bool) → (b || true) ≡ true
either true = refl
either false = refl

-- A data abort whose address a region has.
module _ (regions : List MemoryAccessRegion) (core : Core) (trap : TrapRegisters) (m : MemoryAccessHandlerMatch)
    (found : find_region regions (access_by trap).ipa ≡ Some m) where
  abbrev access : MemoryAccess
  access = access_by trap

  -- "a load through an absent half gives 0": Rt takes 0, whatever the width, and ELR is past the instruction
  pub quiet-load : (counter : ℕ) → isv (iss trap.esr) ≡ true → wnr (iss trap.esr) ≡ false → m.region.handler.read ≡ Absent
      → handle_data_abort regions core counter trap
      ≡ answered (Ok (AccessHandled Read)) (advance_pc (write_gpr core access.register_index 0).core) counter
  unfolding injection_due
  quiet-load counter v d h = rw (by_cases regions core counter trap, v, found, d, h)

  -- "and a store is dropped": ELR alone moves
  pub quiet_store : (counter : ℕ) → isv (iss trap.esr) ≡ true → wnr (iss trap.esr) ≡ true → m.region.handler.write ≡ Absent
      → handle_data_abort regions core counter trap ≡ answered (Ok (AccessHandled Write)) (advance_pc core) counter
  unfolding injection_due
  quiet_store counter v d h = rw (by_cases regions core counter trap, v, found, d, h)

  -- "Half 2 means fault": the guest gets the abort, in either direction
  pub fault_injected : (counter : ℕ) → handler_for access.kind m ≡ Fault
      → handle_data_abort regions core counter trap ≡ inject_data_abort core counter trap
  unfolding injection_due
  fault_injected counter h = rw (by_cases regions core counter trap, found, h, either (no_isv trap))

  -- no access but one through the page depends on the counter or changes it
  pub counter_of_the_page : (handler_for access.kind m ≡ FilteredMmio → ⊥) → Steady (λ counter. handle_data_abort regions core counter trap)
  counter_of_the_page other =
      counter_unused regions core trap (λ l.
      let e : Some m ≡ Some l.found = sym found ∙ l.is_found in
      let same : m ≡ l.found = cc in
      other (rw (l.wnr_clear, same) l.reads_page))

-- When an injection is due, for any regions, core, counter and trap.
module _ (regions : List MemoryAccessRegion) (core : Core) (counter : ℕ) (trap : TrapRegisters) where
  abbrev kind : MemoryAccessKind
  kind = (access_by trap).kind

  -- the page faults, where Rt holds what the core has
  abbrev PageFaults : MemoryAccessHandlerMatch → Type 0
  PageFaults m = device_fault kind (access_by trap) m.offset (read_value (read_gpr core (access_by trap).register_index)) counter ≡ true

  -- the region that has the address
  abbrev IsFound : Option MemoryAccessHandlerMatch → Type 0
  IsFound found = find_region regions (access_by trap).ipa ≡ found

  -- ISV clear, no region, half 2 for the direction, or a fault of the page
  abbrev pub Due : Type 0
  Due =
      (isv (iss trap.esr) ≡ false)
      ⊎ (IsFound None)
      ⊎ ((m : MemoryAccessHandlerMatch) × IsFound (Some m) × (handler_for kind m ≡ Fault))
      ⊎ ((m : MemoryAccessHandlerMatch) × IsFound (Some m) × (handler_for kind m ≡ FilteredMmio) × PageFaults m)

  pub due_if : Due → injection_due regions core counter trap ≡ true
  unfolding injection_due
  due_if (inl clear) = rw clear
  due_if (inr (inl none)) = rw (none, either (no_isv trap))
  due_if (inr (inr (inl (m, found, fault)))) = rw (found, fault, either (no_isv trap))
  due_if (inr (inr (inr (m, found, page, faults)))) = rw (found, page, faults, either (no_isv trap))

  pub due_only : injection_due regions core counter trap ≡ true → Due
  unfolding injection_due
  due_only e = by_syndrome (isv (iss trap.esr)) refl e
    where
      rt : ℕ
      rt = read_value (read_gpr core (access_by trap).register_index)

      by_handler : (m : MemoryAccessHandlerMatch) → IsFound (Some m) → (handler : MemoryHandler) → handler_for kind m ≡ handler
          → faults_through handler (device_fault kind (access_by trap) m.offset rt counter) ≡ true → Due
      by_handler m f Absent h e = absurd (true≢false (sym e))
      by_handler m f FilteredMmio h e = inr (inr (inr (m, f, h, e)))
      by_handler m f Fault h e = inr (inr (inl (m, f, h)))

      by_region : (found : Option MemoryAccessHandlerMatch) → IsFound found → not_handled kind found (access_by trap) rt counter ≡ true → Due
      by_region None f e = inr (inl f)
      by_region (Some m) f e = by_handler m f (handler_for kind m) refl e

      by_syndrome : (valid : Bool) → isv (iss trap.esr) ≡ valid
          → (not valid || not_handled kind (find_region regions (access_by trap).ipa) (access_by trap) rt counter) ≡ true → Due
      by_syndrome false v e = inl v
      by_syndrome true v e = by_region (find_region regions (access_by trap).ipa) refl e
