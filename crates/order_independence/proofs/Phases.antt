-- Order independence in phases, from fresh and from any two states that are the same. A phase of calls that add is demand 3; one of a release is
-- demand 3 with no call, from the states after the release, which leaves them the same. Assumes nothing.
use Prim.Native.Nat.{ℕ}
use mathlib.Core.Path.{refl, subst₂}
use mathlib.Core.List.Permᴰ
use mathlib.Core.List.{List, [], ◌∷◌, ◌++◌}
use mathlib.Core.Logic.{◌⊎◌, inl, inr}
use Rattle.lists.proofs.Sorting.{perm_member}
use Rattle.stage2.proofs.Release.{release_keeps}
use Rattle.memory_import.specs.Changes.{PolicyCall}
use Rattle.simple_map.specs.Keys.{KeysDiffer}
use Rattle.order_independence.specs.Calls.{State, fresh_state, CoreCall, after_changes}
use Rattle.order_independence.specs.Steps.{Named, AllNamed, Loads}
use Rattle.order_independence.specs.OrderIndependence.{Separate, Same, OrderIndependentFrom, OrderIndependent, Sound}
use Rattle.order_independence.specs.Phases.{Change, adding, releasing, Phase, after_change, after_phase, SameChange, SamePhase, SeparateEach, SeparateRun, PhaseFound, PhaseIndependentFrom, PhaseIndependentEach, PhaseIndependent, PhaseIndependentAny}
use Rattle.order_independence.specs.AnyCalls.{phase}
use Rattle.order_independence.proofs.Runs.{fresh_sound, sound_changes, sound_steps, same_refl}
use Rattle.order_independence.proofs.OrderIndependence.{order_independent_from}
use Rattle.order_independence.proofs.SamePolicies.{release_answer-same, release_policy_same}

-- a change keeps a state sound, and so does a phase
sound_change : (key : ℕ → ℕ) (s : State) (c : Change) → Sound key s → Sound key (after_change s c)
sound_change key s (adding calls) sound = sound_changes key s calls sound
sound_change key s (releasing base size) sound = record {
  well_formed = release_keeps s.policy base size sound.well_formed;
  eight = sound.eight;
  holds = sound.holds;
}

pub sound_phase : (key : ℕ → ℕ) → KeysDiffer key → (s : State) (p : Phase) → Sound key s → AllNamed key p.steps
    → Sound key (after_phase s p)
sound_phase key differ s p sound named =
    sound_steps key differ p.steps (after_change s p.change) (sound_change key s p.change sound) named

-- A phase of two runs that are the same before it.
module _ (key : ℕ → ℕ) (s t : State) (sound-s : Sound key s) (sound-t : Sound key t) (same : Same key s t) (steps again : List CoreCall) where
  by_adding : (calls order : List PolicyCall) → SamePhase key s.policy (phase (adding calls) steps) (phase (adding order) again)
      → Separate key (after_changes s calls) steps → PhaseFound key s t (phase (adding calls) steps) (phase (adding order) again)
  by_adding calls order done apart =
      let f =
      order_independent_from key s t sound-s sound-t same calls order steps again
      (record { same_calls = done.same_change; same_steps = done.same_steps; own_order = done.own_order }) apart in
      record {
        change_again = f.accepted_again;
        same_end = f.same_end;
        same_answers = f.same_answers;
        above_10 = f.above_10;
        above_10_again = f.above_10_again;
      }

  module _ (base size : ℕ) where
    abbrev gone : State → State
    gone u = after_change u (releasing base size)

    -- a release leaves them the same
    released_same : Same key (gone s) (gone t)
    released_same = record {
      policies = release_policy_same s.policy t.policy sound-s.well_formed sound-t.well_formed same.policies base size;
      counters = same.counters;
      all_cores = same.all_cores;
      entries = same.entries;
    }

    by_releasing : SamePhase key s.policy (phase (releasing base size) steps) (phase (releasing base size) again)
        → Separate key (gone s) steps → PhaseFound key s t (phase (releasing base size) steps) (phase (releasing base size) again)
    by_releasing done apart =
        let c = releasing base size in
        let f =
        order_independent_from key (gone s) (gone t) (sound_change key s c sound-s) (sound_change key t c sound-t) released_same [] [] steps again
        (record { same_calls = Permᴰ.nil; same_steps = done.same_steps; own_order = done.own_order }) apart in
        record {
          change_again = release_answer-same s.policy t.policy sound-s.well_formed sound-t.well_formed same.policies base size;
          same_end = f.same_end;
          same_answers = f.same_answers;
          above_10 = f.above_10;
          above_10_again = f.above_10_again;
        }

-- any phase of two such runs
phase-found : (key : ℕ → ℕ) (s t : State) → Sound key s → Sound key t → Same key s t → (one two : Phase) → SamePhase key s.policy one two
    → Separate key (after_change s one.change) one.steps → PhaseFound key s t one two
phase-found key s t sound-s sound-t same one two done = go one.change two.change done.same_change
  where
    again : (a b : Change) → SameChange s.policy a b → SamePhase key s.policy (phase a one.steps) (phase b two.steps)
    again a b d = record { same_change = d; same_steps = done.same_steps; own_order = done.own_order }

    go : (a b : Change) → SameChange s.policy a b → Separate key (after_change s a) one.steps
        → PhaseFound key s t (phase a one.steps) (phase b two.steps)
    go (adding calls) (adding order) d apart =
        by_adding key s t sound-s sound-t same one.steps two.steps calls order (again (adding calls) (adding order) d) apart
    go (adding calls) (releasing base size) d apart = absurd d
    go (releasing base size) (adding order) d apart = absurd d
    go (releasing base size) (releasing base' size') (e, e') apart =
        subst₂ (λ x y. PhaseFound key s t (phase (releasing base size) one.steps) (phase (releasing x y) two.steps)) e e'
        (by_releasing key s t sound-s sound-t same one.steps two.steps base size
        (again (releasing base size) (releasing base size) (refl, refl)) apart)

-- Order independence in phases, with the conditions asked phase by phase.
pub phase_independent_each : (key : ℕ → ℕ) (s t : State) → Sound key s → Sound key t → Same key s t → PhaseIndependentEach key s t
phase_independent_each key s t sound-s sound-t same [] [] done apart =
    record { each_phase = tt; whole_answers = λ i h. refl; last_state = same }
phase_independent_each key s t sound-s sound-t same [] (two ∷ again) done apart = absurd done
phase_independent_each key s t sound-s sound-t same (one ∷ run) [] done apart = absurd done
phase_independent_each key s t sound-s sound-t same (one ∷ run) (two ∷ again) done apart =
    let f = phase-found key s t sound-s sound-t same one two done.0 apart.0 in
    let differ = apart.0.keys_differ in
    let named = perm_member done.0.same_steps (Named key) apart.0.all_named in
    let r =
    phase_independent_each key (after_phase s one) (after_phase t two) (sound_phase key differ s one sound-s apart.0.all_named)
    (sound_phase key differ t two sound-t named) f.same_end run again done.1 apart.1 in
    record {
      each_phase = (f, r.each_phase);
      whole_answers = λ i h j. f.same_answers i h j ++ r.whole_answers i h j;
      last_state = r.last_state;
    }

-- conditions that hold over the whole run hold of each phase
separate_each : (key : ℕ → ℕ) (run : List Phase) (s : State) → SeparateRun key s run → SeparateEach key s run
separate_each key [] s apart = tt
separate_each key (p ∷ ps) s apart = (
  record {
    one_loader = λ i j l m. apart.one_loader i j (inl l) (inl m);
    keys_differ = apart.keys_differ;
    all_named = apart.all_named.0;
  },
  separate_each key ps (after_phase s p)
      (record {
        one_loader = λ i j l m. apart.one_loader i j (inr l) (inr m);
        keys_differ = apart.keys_differ;
        all_named = apart.all_named.1;
      }),
)

-- Order independence in phases, with the conditions over the whole first run, from any two states that are the same.
pub phase_independent_from : PhaseIndependentAny
phase_independent_from key s t sound-s sound-t same run again done apart =
    phase_independent_each key s t sound-s sound-t same run again done (separate_each key run s apart)

-- From fresh.
pub phase_independent : PhaseIndependent
phase_independent key =
    phase_independent_from key fresh_state fresh_state (fresh_sound key) (fresh_sound key) (same_refl key fresh_state)

-- Demand 3 is the case of one phase.
module _ (key : ℕ → ℕ) (s t : State) where
  only : (i : ℕ) (p : State) (steps : List CoreCall) → Loads p i steps ⊎ ⊥ → Loads p i steps
  only i p steps (inl l) = l
  only i p steps (inr e) = absurd e

  pub one_phase : PhaseIndependentFrom key s t → OrderIndependentFrom key s t
  one_phase claim calls order steps mixed done apart =
      let p = after_changes s calls in
      let r = claim (phase (adding calls) steps ∷ []) (phase (adding order) mixed ∷ [])
      (record { same_change = done.same_calls; same_steps = done.same_steps; own_order = done.own_order }, tt)
      (record {
        one_loader = λ i j l m. apart.one_loader i j (only i p steps l) (only j p steps m);
        keys_differ = apart.keys_differ;
        all_named = (apart.all_named, tt);
      }) in
      let f = r.each_phase.0 in
      record {
        accepted_again = f.change_again;
        same_end = f.same_end;
        same_answers = f.same_answers;
        above_10 = f.above_10;
        above_10_again = f.above_10_again;
      }

pub demand_3 : OrderIndependent
demand_3 key = one_phase key fresh_state fresh_state (phase_independent key)
