-- A trap that loads the counter word answers from the counter and makes it grow by 1; any other neither depends on the counter nor changes
-- it. Assumes nothing.
use Prim.Native.Nat.{ℕ, ◌+◌, ◌-◌, ◌%◌, ◌^◌}
use mathlib.Core.Path.{◌≡◌, refl, sym, ◌∙◌, ap}
use mathlib.Core.Bool.{Bool, true, false}
use mathlib.Core.List.Memᴰ
use mathlib.Core.List.{List}
use native.Mathlib.Omega.{arith}
use borrow.Author.Tests.{eqb-false}
use lib.Dec.{ltb}
use lib.ListN.{set}
use Rattle.lists.specs.Refusals.{case}
use Rattle.lists.proofs.Laws.{zero_none}
use Rattle.memory_access.specs.declared.MemoryAccessKind.TheVariants.{Read}
use Rattle.memory_access.specs.Syndrome.{fault_ipa}
use Rattle.stage2_range.specs.Registry.{region_bytes}
use Rattle.stage2_range.proofs.Ranges.{byte_above}
use Rattle.stage2_range.proofs.Registry.{find-held}
use Rattle.stage2.specs.declared.Policy.{Policy}
use Rattle.stage2.specs.Policy.{regions_held}
use Rattle.stage2.specs.Builds.{WellFormed}
use Rattle.stage2.proofs.WellFormed.{find_exact, held_address}
use Rattle.exceptions.specs.declared.Core.{Core}
use Rattle.exceptions.specs.Registers.{core_of}
use Rattle.forwarded_call.specs.ForwardedCall.{waits}
use Rattle.data_abort.specs.declared.TrapRegisters.{TrapRegisters}
use Rattle.data_abort.specs.CounterLoad.{CounterLoad}
use Rattle.core_answers.specs.declared.CoreError.TheVariants.{NoSuchCore, CoreWaiting}
use Rattle.core_answers.specs.declared.TrapAnswer.TheVariants.{AccessHandled}
use Rattle.hypervisor.specs.declared.Trapped.{Trapped}
use Rattle.core_answers.specs.Answers.{core_error_number, trap_number, without_values}
use Rattle.core_answers.proofs.Laws.{error_not_zero}
use Rattle.hypervisor.specs.Cores.{trap_on, trap_cases}
use Rattle.order_independence.specs.CounterWord.{LoadsCounterWord}
use Rattle.hypervisor.proofs.Counter.{counter_read, StepLoads, step_loads, step_steady}
use Rattle.hypervisor.proofs.Refusals.{trap_number_lem}
use Rattle.std.specs.Prelude.{Err, Ok}

-- The trap of one of the eight cores, in document 01's words.
module _ (policy : Policy) (cores : List Core) (counter i : ℕ) (trap : TrapRegisters) where
  abbrev core : Core
  core = core_of cores i

  -- an accepted trap names one of the eight cores, which is idle
  accepted_idle : trap_number (trap_on policy cores counter i trap).result.answer ≡ 0 → (ltb 7 i ≡ false) × (waits core.wait ≡ false)
  accepted_idle e =
      let none = sym (trap_number_lem policy cores counter i trap) ∙ e in
      let unmet = zero_none core_error_number (trap_cases policy cores counter i trap) (λ error. eqb-false _ _ (error_not_zero error)) none in (
        unmet (case NoSuchCore (ltb 7 i)) (Memᴰ.head refl),
        unmet (case CoreWaiting (waits core.wait)) (Memᴰ.tail (Memᴰ.head refl)),
      )

  -- in a well-formed policy the region 16 below the IPA is the one found
  found_region : WellFormed policy → LoadsCounterWord policy cores counter i trap → CounterLoad (regions_held policy) trap
  found_region w l =
      let r = l.region in
      let ipa = fault_ipa trap.fipa trap.far in
      let valid = w.regions_disjoint.valid r l.is_held in
      let has = held_address policy w r l.is_held ipa.0 (omega (arith, l.ipa_16_above))
      (omega (arith, l.ipa_16_above, valid.whole_pages, valid.not_empty)) in
      record {
        isv_set = l.isv_set;
        wnr_clear = l.wnr_clear;
        sas_3 = l.sas_3;
        found = record { region = r; offset = ipa.0 - r.base_ipa };
        is_found = find_exact policy w r l.is_held ipa has;
        offset_16 = omega (arith, l.ipa_16_above);
        reads_page = l.reads_page;
      }

  -- a trap that loads the counter word puts the counter as it was into Rt, and the counter grows by 1 modulo 2^64
  pub word-loaded : WellFormed policy → LoadsCounterWord policy cores counter i trap
      → trap_on policy cores counter i trap
      ≡ record {
        result = without_values (Ok (AccessHandled Read));
        policy = policy;
        cores = set cores i (counter_read core counter trap);
        counter = (counter + 1) % 2 ^ 64;
      }
  unfolding trap_on
  word-loaded w l =
      let ok = accepted_idle l.accepted in
      rw (ok.0, step_loads (regions_held policy) core trap counter (record { idle = ok.1; class = l.class; access = found_region w l }))

  -- a step that loads the counter word, on any regions, does so in document 01's words
  in_words : ltb 7 i ≡ false → StepLoads (regions_held policy) core trap → LoadsCounterWord policy cores counter i trap
  unfolding trap_on
  in_words h l =
      let a = l.access in
      let ipa = fault_ipa trap.fipa trap.far in
      let f = find-held (regions_held policy) ipa a.found a.is_found in
      record {
        accepted = rw (h, step_loads (regions_held policy) core trap counter l);
        class = l.class;
        isv_set = a.isv_set;
        wnr_clear = a.wnr_clear;
        sas_3 = a.sas_3;
        region = a.found.region;
        is_held = f.0;
        ipa_16_above = omega (arith, byte_above (region_bytes a.found.region) ipa.0 f.1, f.2, a.offset_16);
        reads_page = a.reads_page;
      }

  -- any other trap answers the same at every counter, and leaves it
  abbrev SameAt : ℕ → Type 0
  SameAt counter' =
      let t = trap_on policy cores counter i trap in
      trap_on policy cores counter' i trap
      ≡ record { result = t.result; policy = policy; cores = t.cores; counter = counter' }

  refused-same : (counter' : ℕ) → ltb 7 i ≡ true → SameAt counter'
  unfolding trap_on
  refused-same counter' h = rw h

  step_same : (counter' : ℕ) → ltb 7 i ≡ false → (StepLoads (regions_held policy) core trap → ⊥) → SameAt counter'
  unfolding trap_on
  step_same counter' h none = rw (h, step_steady (regions_held policy) core trap none counter' counter)

  pub word-not-loaded : (LoadsCounterWord policy cores counter i trap → ⊥) → (counter' : ℕ) → SameAt counter'
  word-not-loaded none counter' = go (ltb 7 i) refl
    where
      go : (b : Bool) → ltb 7 i ≡ b → SameAt counter'
      go true h = refused-same counter' h
      go false h = step_same counter' h (λ l. none (in_words h l))

  -- so the counter grows exactly where its word is loaded
  pub counter_left : (LoadsCounterWord policy cores counter i trap → ⊥) → (trap_on policy cores counter i trap).counter ≡ counter
  counter_left none = ap (λ (t : Trapped). t.counter) (word-not-loaded none counter)
