-- Laws on a data abort. Assumes nothing.
use Rattle.std.proofs.Common.{◌≡◌, ℕ, ◌/◌, ◌^◌, ◌<◌, Bool, true, false, cond, not, ◌&&◌, ◌||◌, eqb, List, refl, ap, ◌∙◌, subst, ap₂, arith, lit<}
use Rattle.lists.proofs.Laws.{cond_map, cond_all}
use Rattle.bits.specs.Bits.{bits_at, low_bits, FitsWord}
use Rattle.bits.proofs.Laws.{replaced-field, replaced_below, replaced_above, replaced-fits}
use Rattle.memory_access.specs.declared.MemoryAccess.{MemoryAccess}
use Rattle.memory_access.specs.declared.MemoryAccessKind.{MemoryAccessKind}
use Rattle.memory_access.specs.declared.MemoryAccessKind.TheVariants.{Read, Write}
use Rattle.memory_access.specs.Syndrome.{isv, decode_access}
use Rattle.memory_access.specs.Transfer.{extend_read_result}
use Rattle.memory_access.proofs.Laws.{extended_fits, extended_zero}
use Rattle.stage2_range.specs.declared.MemoryAccessRegion.{MemoryAccessRegion}
use Rattle.stage2_range.specs.Registry.{find_region}
use Rattle.exceptions.specs.declared.Core.{Core}
use Rattle.exceptions.specs.Registers.{advance_pc, read_gpr, read_value, write_gpr}
use Rattle.exceptions.proofs.Laws.{write_wait}
use Rattle.exceptions.proofs.InWords.{InWords, in_advanced, in_return, in_written}
use Rattle.qemu.specs.FilteredMmio.{loads_counter, counter_after, read_filtered_mmio}
use Rattle.qemu.proofs.Laws.{counter_fits}
use Rattle.core_answers.specs.declared.CoreError.TheVariants.{NoGuestVector}
use Rattle.core_answers.specs.declared.TrapAnswer.TheVariants.{AccessHandled, AbortInjected}
use Rattle.core_answers.specs.declared.TrapStep.{TrapStep}
use Rattle.core_answers.specs.Answers.{trap_number, is_forwarded, without_values, refused_trap}
use Rattle.core_answers.specs.declared.CoreError.{CoreError}
use Rattle.data_abort.specs.declared.TrapRegisters.{TrapRegisters}
use Rattle.data_abort.specs.DataAbort.{iss, access_by, absent_handler, offset_in, page_read, not_handled, injection_due, word_read, done, emulate_access, try_memory_access, with_ec, injected, inject_data_abort, step_by, handle_data_abort}
use Rattle.data_abort.specs.declared.HandledAccess.{HandledAccess}
use Rattle.data_abort.specs.declared.HandledAccess.TheVariants.{Loaded, Stored}
use Rattle.std.specs.Prelude.{Err, None, Ok, Option, Some}
use Rattle.stage2_range.specs.declared.MemoryAccessHandlerMatch.{MemoryAccessHandlerMatch}

-- "the whole ESR with EC 0x25": bits 31:26 are the class, and all others are as they were
pub class_replaced : (esr class : ℕ) → class < 2 ^ 6
    → (bits_at (with_ec esr class) 26 6 ≡ class) × (low_bits 26 (with_ec esr class) ≡ low_bits 26 esr) × (with_ec esr class / 2 ^ 32 ≡ esr / 2 ^ 32)
class_replaced esr class h = (replaced-field esr 26 6 class h, replaced_below esr 26 6 class h, replaced_above esr 26 6 class h)

-- the step of a handled access
abbrev pub handled : TrapRegisters → MemoryAccessKind → Bool → MemoryAccess → ℕ → Core → ℕ → TrapStep
handled trap kind absent access offset core counter = step_by (Some (done kind absent access offset counter)) core counter trap

-- A data abort goes by what comes of its access: nothing handles it exactly where an injection is due.
module _ (regions : List MemoryAccessRegion) (core : Core) (counter : ℕ) (trap : TrapRegisters) where
  abbrev access : MemoryAccess
  access = access_by trap

  abbrev found : Option MemoryAccessHandlerMatch
  found = find_region regions access.ipa

  abbrev absent : Bool
  absent = absent_handler access.kind found

  pub by_outcome : handle_data_abort regions core counter trap ≡ step_by (try_memory_access regions core counter trap) core counter trap
  unfolding handle_data_abort
  by_outcome = refl

  pub by_cases : handle_data_abort regions core counter trap
      ≡ cond (injection_due regions core counter trap) (inject_data_abort core counter trap) (handled trap access.kind absent access (offset_in found) core counter)
  unfolding handle_data_abort try_memory_access
  by_cases = cond_map (λ o. step_by o core counter trap) (injection_due regions core counter trap) _ _

  -- what comes of the access, by whether its syndrome is valid
  abbrev tried_by : Bool → Option HandledAccess
  tried_by valid =
      cond (not valid || not_handled access.kind found access (read_value (read_gpr core access.register_index)) counter) None
      (Some (done access.kind absent access (offset_in found) counter))

  -- the access is tried as it is decoded: the region that has its address, and what its register holds, decide
  pub access_tried : (a : MemoryAccess) → decode_access (iss trap.esr) trap.fipa trap.far ≡ Some a
      → emulate_access (find_region regions a.ipa) a (read_value (read_gpr core a.register_index)) counter
      ≡ try_memory_access regions core counter trap
  unfolding try_memory_access injection_due emulate_access decode_access
  access_tried a e = go (isv (iss trap.esr)) e
    where
      go : (valid : Bool) → cond valid (Some access) None ≡ Some a
          → emulate_access (find_region regions a.ipa) a (read_value (read_gpr core a.register_index)) counter ≡ tried_by valid
      go true e = let same : a ≡ access = cc in rw same
      go false e = let z : ◌≡◌ {A = ℕ} 0 1 = cc in absurd (omega arith)

  pub nothing_tried : decode_access (iss trap.esr) trap.fipa trap.far ≡ None → None ≡ try_memory_access regions core counter trap
  unfolding try_memory_access injection_due decode_access
  nothing_tried e = go (isv (iss trap.esr)) e
    where
      go : (valid : Bool) → cond valid (Some access) None ≡ None → None ≡ tried_by valid
      go true e = let z : ◌≡◌ {A = ℕ} 0 1 = cc in absurd (omega arith)
      go false e = refl

  handled_answer : (kind : MemoryAccessKind) (absent : Bool) → (handled trap kind absent access (offset_in found) core counter).result.answer ≡ (Ok (AccessHandled kind))
  handled_answer Read true = refl
  handled_answer Read false = refl
  handled_answer Write _ = refl

  -- each answer exactly in its case: the abort where an injection is due, 13 where VBAR is 0 then, else the access in its direction
  pub abort_answer : (handle_data_abort regions core counter trap).result.answer
      ≡ cond (injection_due regions core counter trap) (cond (eqb trap.vbar 0) (Err NoGuestVector) (Ok AbortInjected)) (Ok (AccessHandled access.kind))
  unfolding inject_data_abort
  abort_answer =
      ap (λ (s : TrapStep). s.result.answer) by_cases
      ∙ cond_map (λ (s : TrapStep). s.result.answer) (injection_due regions core counter trap) _ _
      ∙ ap₂ (cond (injection_due regions core counter trap)) (cond_map (λ (s : TrapStep). s.result.answer) (eqb trap.vbar 0) _ _)
      (handled_answer access.kind absent)

  -- 13 exactly where an injection is due and VBAR is 0
  pub abort-number : trap_number (handle_data_abort regions core counter trap).result.answer
      ≡ cond (injection_due regions core counter trap && eqb trap.vbar 0) 13 0
  abort-number = ap trap_number abort_answer ∙ go (injection_due regions core counter trap) (eqb trap.vbar 0)
    where
      go : (due none : Bool) → trap_number (cond due (cond none (Err NoGuestVector) (Ok AbortInjected)) (Ok (AccessHandled access.kind))) ≡ cond (due && none) 13 0
      go true true = refl
      go true false = refl
      go false none = refl

-- A refusal is a refusal and nothing else.
module _ (regions : List MemoryAccessRegion) (core : Core) (counter : ℕ) (trap : TrapRegisters) where
  abbrev Kept : TrapStep → Type 0
  Kept step = (trap_number step.result.answer ≡ 0 → ⊥) → (error : CoreError) × (step ≡ refused_trap error core counter)

  handled-accepted : (kind : MemoryAccessKind) (absent : Bool) (access : MemoryAccess) (offset : ℕ) → Kept (handled trap kind absent access offset core counter)
  handled-accepted Read true _ _ h = absurd (h refl)
  handled-accepted Read false _ _ h = absurd (h refl)
  handled-accepted Write _ _ _ h = absurd (h refl)

  pub abort_refused : Kept (handle_data_abort regions core counter trap)
  unfolding inject_data_abort
  abort_refused =
      rw (by_cases regions core counter trap) (cond_all Kept (injection_due regions core counter trap) _ _
      (cond_all Kept (eqb trap.vbar 0) _ _ (λ h. (NoGuestVector, refl)) (λ h. absurd (h refl)))
      (handled-accepted (access_by trap).kind _ (access_by trap) _))

-- What holds of the core and the counter as they were, after a handled load, after a handled store and after an injection, holds after a
-- data abort.
module _ (P : Core → ℕ → Type 0) (core : Core) (counter : ℕ) (same : P core counter)
    (load : (access : MemoryAccess) (value : ℕ) (loads : Bool)
    → P (advance_pc (write_gpr core access.register_index (extend_read_result access value)).core) (counter_after loads counter))
    (store : P (advance_pc core) counter) where
  abbrev After : TrapStep → Type 0
  After step = P step.core step.counter

  after-handled : (trap : TrapRegisters) (kind : MemoryAccessKind) (absent : Bool) (access : MemoryAccess) (offset : ℕ)
      → After (handled trap kind absent access offset core counter)
  unfolding read_filtered_mmio counter_after
  after-handled trap Read true access offset =
      subst (λ v. P (advance_pc (write_gpr core access.register_index v).core) counter) (extended_zero access) (load access 0 false)
  after-handled trap Read false access offset =
      load access (word_read (read_filtered_mmio (page_read access offset) counter).result) (loads_counter (page_read access offset))
  after-handled trap Write _ _ _ = store

  pub abort_all : (regions : List MemoryAccessRegion) (trap : TrapRegisters) → P (injected core trap) counter
      → After (handle_data_abort regions core counter trap)
  unfolding inject_data_abort
  abort_all regions trap injection =
      rw (by_cases regions core counter trap)
      (cond_all After (injection_due regions core counter trap) _ _ (cond_all After (eqb trap.vbar 0) _ _ same injection)
      (after-handled trap (access_by trap).kind _ (access_by trap) _))

-- a data abort leaves what the core waits for
pub abort_wait : (regions : List MemoryAccessRegion) (core : Core) (counter : ℕ) (trap : TrapRegisters)
    → (handle_data_abort regions core counter trap).core.wait ≡ core.wait
unfolding advance_pc injected
abort_wait regions core counter trap =
    abort_all (λ c n. c.wait ≡ core.wait) core counter refl
    (λ access value loads. write_wait core access.register_index (extend_read_result access value))
    refl
    regions trap refl

-- and hands out no call
pub abort-not-forwarded : (regions : List MemoryAccessRegion) (core : Core) (counter : ℕ) (trap : TrapRegisters)
    → is_forwarded (handle_data_abort regions core counter trap).result.answer ≡ false
abort-not-forwarded regions core counter trap =
    ap is_forwarded (abort_answer regions core counter trap) ∙ go (injection_due regions core counter trap) (eqb trap.vbar 0)
  where
    go : (due none : Bool) → is_forwarded (cond due (cond none (Err NoGuestVector) (Ok AbortInjected)) (Ok (AccessHandled (access_by trap).kind))) ≡ false
    go true true = refl
    go true false = refl
    go false none = refl

-- so that its result has no values and no hint
pub abort-without_values : (regions : List MemoryAccessRegion) (core : Core) (counter : ℕ) (trap : TrapRegisters) →
    let result = (handle_data_abort regions core counter trap).result in
    result ≡ without_values result.answer
unfolding handle_data_abort inject_data_abort
abort-without_values regions core counter trap = go (try_memory_access regions core counter trap)
  where
    Without : TrapStep → Type 0
    Without step = step.result ≡ without_values step.result.answer

    go : (outcome : Option HandledAccess) → Without (step_by outcome core counter trap)
    go (Some (Loaded index value after)) = refl
    go (Some Stored) = refl
    go None = cond_all Without (eqb trap.vbar 0) _ _ refl refl

-- A core and a counter that fit words fit after a data abort.
pub in_aborted : (regions : List MemoryAccessRegion) (core : Core) (counter : ℕ) (trap : TrapRegisters) → InWords core → FitsWord counter
    → FitsWord trap.esr → FitsWord trap.far →
    let step = handle_data_abort regions core counter trap in
    InWords step.core × FitsWord step.counter
unfolding injected
in_aborted regions core counter trap h f esr far =
    abort_all (λ c n. InWords c × FitsWord n) core counter (h, f)
    (λ access value loads.
    (in_advanced _ (in_written core h access.register_index _ (extended_fits access value)), counter_fits loads counter f))
    (in_advanced core h, f) regions trap
    (in_return core h _ _ _ (omega arith, (omega arith, (h.rest_fits.0, (h.rest_fits.1.0, (far, (replaced-fits trap.esr 26 6 0x25 (lit< tt) 32 esr, tt)))))), f)
