-- Demand 3: the order of the calls does not matter, from fresh and from any two states that are the same. Assumes nothing.
use Prim.Native.Nat.{ℕ, ◌<◌}
use mathlib.Core.Path.{◌≡◌, refl, sym, ◌∙◌, ap}
use mathlib.Core.List.{List, [], ◌∷◌}
use mathlib.Core.Logic.{inl, inr}
use native.Mathlib.Omega.{arith}
use native.Mathlib.Decide.{ℕ_discrete}
use lib.Seq.{ext_get_or}
use Rattle.lists.proofs.Sorting.{perm_member}
use Rattle.stage2_range.specs.declared.MemoryAccessRegion.{MemoryAccessRegion}
use Rattle.stage2.specs.Policy.{regions_held}
use Rattle.memory_import.specs.Changes.{change_all}
use Rattle.order_independence.proofs.Builds.{any_order}
use Rattle.simple_map.specs.Keys.{KeysDiffer}
use Rattle.order_independence.specs.Calls.{State, fresh_state, CoreCall, core_called, after_changes, after_steps}
use Rattle.order_independence.specs.Steps.{Named, Loads}
use Rattle.order_independence.specs.OrderIndependence.{Same, OrderIndependentFrom, OrderIndependent, Sound}
use Rattle.order_independence.proofs.Mixing.{Moves, mixed}
use Rattle.order_independence.proofs.CoreCalls.{Part, core_system, core_laws}
use Rattle.order_independence.proofs.Counter.{counter_kept, own_load}
use Rattle.order_independence.proofs.Runs.{fresh_sound, sound_changes, sound_steps, steps_policy, same_refl, all_above_10}
use Rattle.exceptions.specs.Registers.{core_of, fresh_core}

-- A core that changes the counter cannot but load its word, so where one core at most loads it, one at most changes it.
module _ (key : ℕ → ℕ) (differ : KeysDiffer key) (regions : List MemoryAccessRegion) where
  abbrev Changes : State → List CoreCall → ℕ → Type 0
  Changes = Moves (core_system key regions) (core_laws key differ regions)

  changes_loads : (steps : List CoreCall) (s : State) (i : ℕ) → Changes s steps i → (Loads s i steps → ⊥) → ⊥
  changes_loads [] s i m none = m
  changes_loads (c ∷ cs) s i (inl (own, changed)) none = changed (counter_kept s c (λ j l. none (inl (own_load key s i j c own l))))
  changes_loads (c ∷ cs) s i (inr m) none = changes_loads cs (core_called s c).state i m (λ l. none (inr l))

  one_changes : (steps : List CoreCall) (s : State) → ((i j : ℕ) → Loads s i steps → Loads s j steps → i ≡ j) → (i j : ℕ) → i < 8 → j < 8
      → Changes s steps i → Changes s steps j → i ≡ j
  one_changes steps s one i j h k m n = go (ℕ_discrete i j)
    where
      go : Dec (i ≡ j) → i ≡ j
      go (yes e) = e
      go (no ne) = absurd (changes_loads steps s i m (λ l. changes_loads steps s j n (λ l'. ne (one i j l l'))))

-- Demand 3, from any two states that are the same.
pub order_independent_from : (key : ℕ → ℕ) (s t : State) → Sound key s → Sound key t → Same key s t → OrderIndependentFrom key s t
order_independent_from key s t sound-s sound-t same calls order steps again done apart =
    let differ = apart.keys_differ in
    let b =
    any_order s.policy t.policy calls order sound-s.well_formed sound-t.well_formed same.policies done.same_calls in
    let regions = regions_held (change_all s.policy calls) in
    let p : State = after_changes s calls in
    let q : State = after_changes t order in
    let sound-p = sound_changes key s calls sound-s in
    let sound-q = sound_changes key t order sound-t in
    let named = perm_member done.same_steps (Named key) apart.all_named in
    let m =
    mixed (core_system key regions) (core_laws key differ regions) p q steps again (sound-p, refl) (sound-q, sym b.1.regions)
    apart.all_named named
    (record { counters = same.counters; parts = λ i h j. record { core = core_of (same.all_cores j) i; entry = same.entries i h j } })
    done.own_order (one_changes key differ regions steps p apart.one_loader) in
    let end-p = sound_steps key differ steps p sound-p apart.all_named in
    let end-q = sound_steps key differ again q sound-q named in
    record {
      accepted_again = b.0;
      same_end = record {
        policies = rw (steps_policy steps p, steps_policy again q) b.1;
        counters = m.0.counters;
        all_cores =
            ext_get_or fresh_core (after_steps p steps).cores (after_steps q again).cores (end-p.eight ∙ sym end-q.eight)
            (λ i h. ap (λ (l : Part). l.core) (m.0.parts i (omega (arith, end-p.eight))));
        entries = λ i h. ap (λ (l : Part). l.entry) (m.0.parts i h);
      };
      same_answers = m.1;
      above_10 = all_above_10 steps p;
      above_10_again = all_above_10 again q;
    }

-- Demand 3.
pub order_independent : OrderIndependent
order_independent key = order_independent_from key fresh_state fresh_state (fresh_sound key) (fresh_sound key) (same_refl key fresh_state)
