-- A data abort that loads the counter word answers from the counter and makes it grow; any other neither depends on the counter nor
-- changes it. Assumes nothing.
use Rattle.std.proofs.Common.{◌≡◌, ℕ, zero, suc, ◌+◌, ◌%◌, ◌^◌, ◌<◌, Bool, true, false, cond, not, ◌||◌, eqb, ◌⊎◌, List, sym, refl, inl, inr, true≢false, arith, eqb-true}
use Rattle.lists.proofs.Laws.{both_true}
use Rattle.memory_access.specs.declared.MemoryAccess.{MemoryAccess}
use Rattle.memory_access.specs.declared.MemoryAccessKind.{MemoryAccessKind}
use Rattle.memory_access.specs.declared.MemoryAccessKind.TheVariants.{Read, Write}
use Rattle.memory_access.specs.Syndrome.{isv, sas, wnr, width_of, kind_of}
use Rattle.memory_access.specs.Transfer.{extend_read_result}
use Rattle.bits.proofs.Laws.{field_fits}
use Rattle.stage2_range.specs.declared.MemoryAccessRegion.{MemoryAccessRegion}
use Rattle.stage2_range.specs.declared.MemoryAccessHandlerMatch.{MemoryAccessHandlerMatch}
use Rattle.stage2_range.specs.declared.MemoryHandler.{MemoryHandler}
use Rattle.stage2_range.specs.declared.MemoryHandler.TheVariants.{Absent, FilteredMmio, Fault}
use Rattle.stage2_range.specs.declared.MemoryReadResult.{MemoryReadResult}
use Rattle.stage2_range.specs.declared.MemoryReadResult.TheVariants as read
use Rattle.stage2_range.specs.Registry.{find_region}
use Rattle.exceptions.specs.declared.Core.{Core}
use Rattle.exceptions.specs.Registers.{advance_pc, read_gpr, read_value, write_gpr}
use Rattle.qemu.specs.FilteredMmio.{is64, loads_counter, read_filtered_mmio}
use Rattle.qemu.proofs.Laws.{counter_loaded, counter_kept}
use Rattle.core_answers.specs.declared.TrapAnswer.TheVariants.{AccessHandled}
use Rattle.core_answers.specs.declared.TrapStep.{TrapStep}
use Rattle.core_answers.specs.Answers.{answered}
use Rattle.data_abort.specs.declared.TrapRegisters.{TrapRegisters}
use Rattle.data_abort.specs.DataAbort.{iss, access_by, absent_handler, offset_in, page_read, is_read_fault, not_handled, injection_due, word_read, inject_data_abort, handle_data_abort}
use Rattle.data_abort.specs.CounterLoad.{CounterLoad}
use Rattle.data_abort.proofs.Laws.{handled, by_cases}
use Rattle.std.specs.Prelude.{None, Ok, Option, Some}

-- A load of the counter word puts the counter as it was into Rt, and the counter grows by 1 modulo 2^64.
pub counter_answered : (regions : List MemoryAccessRegion) (core : Core) (counter : ℕ) (trap : TrapRegisters) → CounterLoad regions trap →
    let access = access_by trap in
    handle_data_abort regions core counter trap
    ≡ answered (Ok (AccessHandled Read)) (advance_pc (write_gpr core access.register_index (extend_read_result access counter)).core)
    ((counter + 1) % 2 ^ 64)
unfolding injection_due loads_counter
counter_answered regions core counter trap l =
    let access = access_by trap in
    let of-counter : loads_counter (page_read access l.found.offset) ≡ true = rw (l.sas_3, l.offset_16) in
    rw (by_cases regions core counter trap, l.isv_set, l.is_found, l.wnr_clear, l.reads_page, counter_loaded (page_read access l.found.offset) counter of-counter)

-- A step that does not depend on the counter, and leaves it.
abbrev pub Steady : (ℕ → TrapStep) → Type 0
Steady f = (counter counter' : ℕ) → f counter ≡ record { result = (f counter').result; core = (f counter').core; counter = counter }

cond_steady : (b : Bool) (f g : ℕ → TrapStep) → Steady f → Steady g → Steady (λ counter. cond b (f counter) (g counter))
cond_steady true f g s t = s
cond_steady false f g s t = t

inject_steady : (core : Core) (trap : TrapRegisters) → Steady (λ counter. inject_data_abort core counter trap)
unfolding inject_data_abort
inject_steady core trap = cond_steady (eqb trap.vbar 0) _ _ (λ counter counter'. refl) (λ counter counter'. refl)

-- an access of 64 bits has SAS 3
sas_of_64 : (n : ℕ) → n < 4 → is64 (width_of n) ≡ true → n ≡ 3
sas_of_64 zero h e = absurd (true≢false (sym e))
sas_of_64 (suc zero) h e = absurd (true≢false (sym e))
sas_of_64 (suc (suc zero)) h e = absurd (true≢false (sym e))
sas_of_64 (suc (suc (suc n))) h e = omega arith

-- Every data abort loads the counter word, or its step does not depend on the counter.
module _ (regions : List MemoryAccessRegion) (core : Core) (trap : TrapRegisters) where
  abbrev access : MemoryAccess
  access = access_by trap

  -- a load's step, by what the page gives and the counter after it
  abbrev load_step : MemoryReadResult → ℕ → ℕ → TrapStep
  load_step result after counter =
      let value = extend_read_result access (word_read result) in
      cond (is_read_fault result) (inject_data_abort core counter trap)
      (answered (Ok (AccessHandled Read)) (advance_pc (write_gpr core access.register_index value).core) after)

  load_steady : (result : MemoryReadResult) (after after' counter counter' : ℕ) → after ≡ counter
      → load_step result after counter
      ≡ record { result = (load_step result after' counter').result; core = (load_step result after' counter').core; counter = counter }
  load_steady (read.Value value) after after' counter counter' e = rw e
  load_steady read.Fault after after' counter counter' e = inject_steady core trap counter counter'

  -- the step of a valid syndrome, by the direction and the region found
  abbrev step_of : MemoryAccessKind → Option MemoryAccessHandlerMatch → ℕ → TrapStep
  step_of kind found counter =
      let rt = read_value (read_gpr core access.register_index) in
      cond (not_handled kind found access rt counter) (inject_data_abort core counter trap) (handled trap kind (absent_handler kind found) access (offset_in found) core counter)

  -- a load through a read handler
  by_handler : isv (iss trap.esr) ≡ true → wnr (iss trap.esr) ≡ false → (m : MemoryAccessHandlerMatch)
      → find_region regions access.ipa ≡ Some m → (handler : MemoryHandler) → m.region.handler.read ≡ handler
      → CounterLoad regions trap ⊎ Steady (step_of Read (Some m))
  unfolding loads_counter
  by_handler v d m f Absent h = inr (rw h (λ counter counter'. refl))
  by_handler v d m f FilteredMmio h = go (loads_counter (page_read access m.offset)) refl
    where
      go : (b : Bool) → loads_counter (page_read access m.offset) ≡ b → CounterLoad regions trap ⊎ Steady (step_of Read (Some m))
      go true e =
          let both = both_true (is64 access.width) (eqb m.offset 16) e in
          inl (record {
            isv_set = v;
            wnr_clear = d;
            sas_3 = sas_of_64 (sas (iss trap.esr)) (field_fits (iss trap.esr) 22 2) both.0;
            found = m;
            is_found = f;
            offset_16 = eqb-true m.offset 16 both.1;
            reads_page = h;
          })
      go false e = inr (rw h (λ counter counter'.
          let kept = counter_kept (page_read access m.offset) counter counter' e in
          rw kept.0
          (load_steady (read_filtered_mmio (page_read access m.offset) counter').result
          (read_filtered_mmio (page_read access m.offset) counter).counter (read_filtered_mmio (page_read access m.offset) counter').counter
          counter counter' kept.1)))
  by_handler v d m f Fault h = inr (rw h (inject_steady core trap))

  by_direction : isv (iss trap.esr) ≡ true → (m : MemoryAccessHandlerMatch) → find_region regions access.ipa ≡ Some m
      → (write : Bool) → wnr (iss trap.esr) ≡ write → CounterLoad regions trap ⊎ Steady (step_of (kind_of write) (Some m))
  by_direction v m f true d =
      inr (cond_steady (not_handled Write (Some m) access (read_value (read_gpr core access.register_index)) 0)
      (λ counter. inject_data_abort core counter trap) (λ counter. handled trap Write (absent_handler Write (Some m)) access m.offset core counter)
      (inject_steady core trap) (λ counter counter'. refl))
  by_direction v m f false d = by_handler v d m f m.region.handler.read refl

  by_region : isv (iss trap.esr) ≡ true → (found : Option MemoryAccessHandlerMatch) → find_region regions access.ipa ≡ found
      → CounterLoad regions trap ⊎ Steady (step_of access.kind found)
  by_region v None f = inr (inject_steady core trap)
  by_region v (Some m) f = by_direction v m f (wnr (iss trap.esr)) refl

  -- the step of any syndrome
  abbrev step_by_syndrome : Bool → ℕ → TrapStep
  step_by_syndrome valid counter =
      let rt = read_value (read_gpr core access.register_index) in
      let found = find_region regions access.ipa in
      cond (not valid || not_handled access.kind found access rt counter) (inject_data_abort core counter trap)
      (handled trap access.kind (absent_handler access.kind found) access (offset_in found) core counter)

  by_syndrome : (valid : Bool) → isv (iss trap.esr) ≡ valid → CounterLoad regions trap ⊎ Steady (step_by_syndrome valid)
  by_syndrome false v = inr (inject_steady core trap)
  by_syndrome true v = by_region v (find_region regions access.ipa) refl

  -- a data abort that does not load the counter word neither depends on the counter nor changes it
  pub counter_unused : (CounterLoad regions trap → ⊥) → Steady (λ counter. handle_data_abort regions core counter trap)
  unfolding injection_due
  counter_unused none = go (by_syndrome (isv (iss trap.esr)) refl)
    where
      go : CounterLoad regions trap ⊎ Steady (step_by_syndrome (isv (iss trap.esr))) → Steady (λ counter. handle_data_abort regions core counter trap)
      go (inl l) = absurd (none l)
      go (inr s) = λ counter counter'. rw (by_cases regions core counter trap, by_cases regions core counter' trap) (s counter counter')
