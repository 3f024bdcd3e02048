-- The hypotheses of the claim can be met, in two orders: one core loads the counter word, and two load 16 above a base whose region has the
-- absent handler, which loads no counter word. So can those of the claim in phases, by this phase and a release after it. Assumes nothing.
use Prim.Native.Nat.{ℕ, ◌+◌}
use mathlib.Core.Path.{◌≡◌, refl, sym, ap, ◌∙◌}
use mathlib.Core.Bool.{Bool, true, false, cond}
use mathlib.Core.List.Memᴰ
use mathlib.Core.List.Permᴰ
use mathlib.Core.List.{List, [], ◌∷◌, Memᴰ}
use mathlib.Core.Logic.{◌⊎◌, inl, inr}
use native.Mathlib.Omega.{arith}
use borrow.Author.Tests.{eqb-true}
use lib.Dec.{eqb}
use Rattle.lists.specs.Lists.{select}
use Rattle.stage2_range.specs.Handlers.{handler_number}
use Rattle.stage2_range.specs.Registry.{region_of}
use Rattle.stage2.specs.Builds.{handle}
use Rattle.exceptions.specs.declared.Core.{Core}
use Rattle.data_abort.specs.declared.TrapRegisters.{TrapRegisters}
use Rattle.memory_import.specs.Changes.{PolicyCall, builder}
use Rattle.hypervisor.proofs.Opened as hypervisor
use Rattle.order_independence.specs.CounterWord.{LoadsCounterWord}
use Rattle.order_independence.specs.Calls.{State, fresh_state, by_value, CoreCall, trap, gpr_write, after_changes}
use Rattle.order_independence.specs.Steps.{is_own, Named, Loads}
use Rattle.order_independence.specs.OrderIndependence.{Reordered, Separate, Found}
use Rattle.order_independence.specs.Phases.{adding, releasing, Phase, SamePhases, LoadsIn, SeparateRun, RunFound}
use Rattle.order_independence.specs.AnyCalls.{phase}
use Rattle.order_independence.proofs.Needed.{load}
use Rattle.order_independence.proofs.OrderIndependence.{order_independent}
use Rattle.order_independence.proofs.Phases.{phase_independent}

abbrev key : ℕ → ℕ
key i = 100 + i

-- the filtered MMIO page, and after it a page without handlers
abbrev calls : List PolicyCall
calls = builder (handle 0x0F000000 4096 1 1) ∷ builder (handle 0x0F001000 4096 0 0) ∷ []

abbrev pages : State
pages = after_changes fresh_state calls

-- a 64-bit load into x5, 16 above the base of the second page
abbrev quiet : TrapRegisters
quiet = record { esr = 0x93C58000; fipa = record { 0 = 0xF001 }; far = 0x10; vbar = 0 }

abbrev first : List CoreCall
first = trap 1 quiet ∷ trap 2 quiet ∷ trap 0 load ∷ []

abbrev second : List CoreCall
second = trap 0 load ∷ trap 1 quiet ∷ trap 2 quiet ∷ []

-- core 0 has one step, and the steps of the others stand in the same order
own_order : (i : ℕ) → select (is_own key i) first ≡ select (is_own key i) second
own_order i = go (eqb 0 i) refl
  where
    others : List CoreCall → List CoreCall
    others rest = cond (eqb 1 i) (trap 1 quiet ∷ cond (eqb 2 i) (trap 2 quiet ∷ rest) rest) (cond (eqb 2 i) (trap 2 quiet ∷ rest) rest)

    go : (own : Bool) → eqb 0 i ≡ own → others (cond own (trap 0 load ∷ []) []) ≡ cond own (trap 0 load ∷ others []) (others [])
    go true e = rw (← eqb-true 0 i e)
    go false e = refl

-- the quiet load is of no counter word: the first page's is elsewhere, and the second page is not the filtered one
not-counted : (cores : List Core) (counter i : ℕ) → LoadsCounterWord pages.policy cores counter i quiet → ⊥
unfolding hypervisor.opened fresh_state
not-counted cores counter i l = go (Memᴰ.cases_cons l.is_held)
  where
    later : (l.region ≡ region_of 0x0F001000 4096 0 0) ⊎ Memᴰ l.region [] → ⊥
    later (inl e) = omega (arith, ap (λ r. handler_number r.handler.read) (sym e) ∙ ap handler_number l.reads_page)
    later (inr m) = absurd (Memᴰ.not-nil m)

    go : (l.region ≡ region_of 0x0F000000 4096 1 1) ⊎ Memᴰ l.region (region_of 0x0F001000 4096 0 0 ∷ []) → ⊥
    go (inl e) = omega (arith, l.ipa_16_above, ap (λ r. r.base_ipa) e)
    go (inr m) = later (Memᴰ.cases_cons m)

-- so core 0 alone loads
loader_is_0 : (i : ℕ) → Loads pages i first → i ≡ 0
unfolding hypervisor.opened fresh_state
loader_is_0 i (inl l) = absurd (not-counted _ _ _ l.1)
loader_is_0 i (inr (inl l)) = absurd (not-counted _ _ _ l.1)
loader_is_0 i (inr (inr (inl l))) = sym l.0
loader_is_0 i (inr (inr (inr l))) = absurd l

done : Reordered key fresh_state.policy calls calls first second
unfolding hypervisor.opened fresh_state
done = record {
  same_calls = Permᴰ.refl _;
  same_steps = Permᴰ.middle (trap 0 load) (trap 1 quiet ∷ trap 2 quiet ∷ []) [];
  own_order = λ i h. own_order i;
}

-- a trap names no key
all_named : (c : CoreCall) → Memᴰ c first → Named key c
all_named c m = go (Memᴰ.cases_cons m)
  where
    last : (c ≡ trap 0 load) ⊎ Memᴰ c [] → Named key c
    last (inl e) = rw e tt
    last (inr m') = absurd (Memᴰ.not-nil m')

    later : (c ≡ trap 2 quiet) ⊎ Memᴰ c (trap 0 load ∷ []) → Named key c
    later (inl e) = rw e tt
    later (inr m') = last (Memᴰ.cases_cons m')

    go : (c ≡ trap 1 quiet) ⊎ Memᴰ c (trap 2 quiet ∷ trap 0 load ∷ []) → Named key c
    go (inl e) = rw e tt
    go (inr m') = later (Memᴰ.cases_cons m')

apart : Separate key pages first
apart = record {
  one_loader = λ i j l m. loader_is_0 i l ∙ sym (loader_is_0 j m);
  keys_differ = λ c d h k e. omega arith;
  all_named = all_named;
}

pub found : Found key fresh_state fresh_state calls calls first second
found = order_independent key calls calls first second done apart

-- Two phases: those calls, the other way round in the second run, and those steps; then the filtered page is released, and two cores write.
abbrev backwards : List PolicyCall
backwards = builder (handle 0x0F001000 4096 0 0) ∷ builder (handle 0x0F000000 4096 1 1) ∷ []

abbrev run : List Phase
run = phase (adding calls) first ∷ phase (releasing 0x0F000000 4096) (gpr_write by_value 0 5 1 ∷ gpr_write by_value 2 5 2 ∷ []) ∷ []

abbrev again : List Phase
again = phase (adding backwards) second ∷ phase (releasing 0x0F000000 4096) (gpr_write by_value 2 5 2 ∷ gpr_write by_value 0 5 1 ∷ []) ∷ []

-- two steps of different cores may change places
swap_own : (x y : CoreCall) (m n i : ℕ) → (m ≡ n → ⊥)
    → cond (eqb m i) (x ∷ cond (eqb n i) (y ∷ []) []) (cond (eqb n i) (y ∷ []) [])
    ≡ cond (eqb n i) (y ∷ cond (eqb m i) (x ∷ []) []) (cond (eqb m i) (x ∷ []) [])
swap_own x y m n i differ = go (eqb m i) (eqb n i) refl refl
  where
    go : (a b : Bool) → eqb m i ≡ a → eqb n i ≡ b
        → cond a (x ∷ cond b (y ∷ []) []) (cond b (y ∷ []) []) ≡ cond b (y ∷ cond a (x ∷ []) []) (cond a (x ∷ []) [])
    go true true e f = absurd (differ (eqb-true m i e ∙ sym (eqb-true n i f)))
    go true false e f = refl
    go false true e f = refl
    go false false e f = refl

done_in_phases : SamePhases key fresh_state run again
unfolding hypervisor.opened fresh_state
done_in_phases = (
  record { same_change = Permᴰ.swap refl refl; same_steps = done.same_steps; own_order = λ i h. own_order i },
  (
    record {
      same_change = (refl, refl);
      same_steps = Permᴰ.swap refl refl;
      own_order = λ i h. swap_own (gpr_write by_value 0 5 1) (gpr_write by_value 2 5 2) 0 2 i (λ e. omega arith);
    },
    tt,
  ),
)

-- core 0 alone loads over both
loader_over_is_0 : (i : ℕ) → LoadsIn fresh_state i run → i ≡ 0
loader_over_is_0 i (inl l) = loader_is_0 i l
loader_over_is_0 i (inr (inl (inl l))) = absurd l
loader_over_is_0 i (inr (inl (inr (inl l)))) = absurd l
loader_over_is_0 i (inr (inl (inr (inr l)))) = absurd l
loader_over_is_0 i (inr (inr l)) = absurd l

-- the writes are to records of the eight
writes_named : (c : CoreCall) → Memᴰ c (gpr_write by_value 0 5 1 ∷ gpr_write by_value 2 5 2 ∷ []) → Named key c
writes_named c m = go (Memᴰ.cases_cons m)
  where
    later : (c ≡ gpr_write by_value 2 5 2) ⊎ Memᴰ c [] → Named key c
    later (inl e) = rw e (omega arith)
    later (inr n) = absurd (Memᴰ.not-nil n)

    go : (c ≡ gpr_write by_value 0 5 1) ⊎ Memᴰ c (gpr_write by_value 2 5 2 ∷ []) → Named key c
    go (inl e) = rw e (omega arith)
    go (inr n) = later (Memᴰ.cases_cons n)

apart_in_phases : SeparateRun key fresh_state run
apart_in_phases = record {
  one_loader = λ i j l m. loader_over_is_0 i l ∙ sym (loader_over_is_0 j m);
  keys_differ = apart.keys_differ;
  all_named = (all_named, (writes_named, tt));
}

pub found_in_phases : RunFound key fresh_state fresh_state run again
found_in_phases = phase_independent key run again done_in_phases apart_in_phases
