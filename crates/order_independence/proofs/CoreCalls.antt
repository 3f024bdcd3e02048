-- The core steps as a system of eight cores with one counter: each core sees its record and the entry under its key. Assumes nothing.
use Prim.Native.Nat.{ℕ, ◌<◌}
use mathlib.Core.Path.{◌≡◌, refl, sym, ◌∙◌, ap}
use mathlib.Core.Bool.{Bool, true, false}
use mathlib.Core.List.{List}
use mathlib.Core.Logic.{◌⊎◌, inl, inr}
use native.Mathlib.Omega.{arith}
use borrow.Author.Tests.{ltb-false, eqb-true, eqb-false, eq-eqb}
use lib.Dec.{ltb}
use lib.Seq.{get_or-set_same, get_or-set_other}
use Rattle.stage2_range.specs.declared.MemoryAccessRegion.{MemoryAccessRegion}
use Rattle.stage2.specs.Policy.{regions_held}
use Rattle.simple_map.specs.Map.{get_item, remove_item}
use Rattle.simple_map.specs.Keys.{KeysDiffer, HoldsKeys}
use Rattle.simple_map.proofs.Keys.{get_removed_other, get_inserted_other, remove_holds, get_removed, insert_accepted, insert_holds, get_inserted}
use Rattle.exceptions.specs.declared.Core.{Core}
use Rattle.exceptions.specs.Registers.{write_gpr, core_of, fresh_core}
use Rattle.forwarded_call.specs.ForwardedCall.{reply_core}
use Rattle.data_abort.specs.declared.TrapRegisters.{TrapRegisters}
use Rattle.core_answers.specs.declared.CoreStep.{CoreStep}
use Rattle.core_answers.specs.declared.TrapStep.{TrapStep}
use Rattle.hypervisor.specs.Trap.{handle_sync_lower}
use Rattle.hypervisor.specs.Cores.{save_core, on_core, save_on, reply_on, trap_on}
use Rattle.hypervisor.proofs.Steps.{trap_step, trap_others, trap_policy, core_step, core_others}
use Rattle.hypervisor.proofs.Counter.{StepLoads, step_loads, step_steady}
use Rattle.order_independence.specs.Calls.{State, CoreCall, save, trap, reply, gpr_write, insert, get, remove, core_call, Answer, stepped, trapped, written, inserted, looked_up, core_called}
use Rattle.order_independence.specs.Steps.{is_own, Named}
use Rattle.order_independence.specs.OrderIndependence.{Sound}
use Rattle.order_independence.proofs.Mixing.{Acted, System, Laws}
use Rattle.order_independence.proofs.Waiting.{call_places}
use Rattle.std.specs.Prelude.{None, Ok, Option, Some}
use Rattle.simple_map.specs.declared.SuspendCoreData.{SuspendCoreData}

-- what a core sees of the state
pub record Part : Type 0 where
  pub core : Core
  pub entry : Option SuspendCoreData

-- a core step leaves the policy
pub core_policy : (s : State) (c : CoreCall) → (core_called s c).state.policy ≡ s.policy
core_policy s (save core x elr spsr) = refl
core_policy s (trap core registers) = trap_policy s.policy s.cores s.counter core registers
core_policy s (reply core result) = refl
core_policy s (gpr_write form core index value) = refl
core_policy s (insert k value) = refl
core_policy s (get k) = refl
core_policy s (remove k) = refl

-- a trap on a number above 7 leaves the counter
trap_above : (s : State) (core : ℕ) (registers : TrapRegisters) → ltb 7 core ≡ true
    → (trap_on s.policy s.cores s.counter core registers).counter ≡ s.counter
unfolding trap_on
trap_above s core registers h = rw h

module _ (key : ℕ → ℕ) (differ : KeysDiffer key) where
  -- the suspend map holds the eight keys, each at most once, after every step
  map-holds : (s : State) (c : CoreCall) → HoldsKeys key s.map → Named key c → HoldsKeys key (core_called s c).state.map
  map-holds s (save core x elr spsr) h n = h
  map-holds s (trap core registers) h n = h
  map-holds s (reply core result) h n = h
  map-holds s (gpr_write form core index value) h n = h
  map-holds s (insert k value) h (i, within, e) = rw e (insert_holds key differ s.map h i within value)
  map-holds s (get k) h n = h
  map-holds s (remove k) h (i, within, e) = rw e (remove_holds key differ s.map h i within)

  pub sound_next : (s : State) (c : CoreCall) → Sound key s → Named key c → Sound key (core_called s c).state
  sound_next s c sound n = record {
    well_formed = rw (core_policy s c) sound.well_formed;
    eight = call_places s (core_call c) ∙ sound.eight;
    holds = map-holds s c sound.holds n;
  }

module _ (key : ℕ → ℕ) (regions : List MemoryAccessRegion) where
  -- what a step comes to, by the held regions, its core's part and the counter
  abbrev act : CoreCall → Part → ℕ → Acted Part Answer
  act (save core x elr spsr) l counter =
      let r = save_core l.core x elr spsr in
      record { answer = stepped r.answer; part = record { core = r.core; entry = l.entry }; counter = counter }
  act (trap core registers) l counter =
      let t = handle_sync_lower regions l.core counter registers in
      record { answer = trapped t.result; part = record { core = t.core; entry = l.entry }; counter = t.counter }
  act (reply core result) l counter =
      let r = reply_core l.core result in
      record { answer = stepped r.answer; part = record { core = r.core; entry = l.entry }; counter = counter }
  act (gpr_write form core index value) l counter =
      let w = write_gpr l.core index value in
      record { answer = written w.answer; part = record { core = w.core; entry = l.entry }; counter = counter }
  act (insert k value) l counter =
      record { answer = inserted (Ok tt); part = record { core = l.core; entry = Some value }; counter = counter }
  act (get k) l counter = record { answer = looked_up l.entry; part = l; counter = counter }
  act (remove k) l counter =
      record { answer = looked_up l.entry; part = record { core = l.core; entry = None }; counter = counter }

  abbrev pub core_system : System
  core_system = record {
    State = State;
    Step = CoreCall;
    Part = Part;
    Answer = Answer;
    answer = λ s c. (core_called s c).answer;
    next = λ s c. (core_called s c).state;
    own = is_own key;
    part = λ i s. record { core = core_of s.cores i; entry = get_item s.map (key i) };
    counter = λ s. s.counter;
    act = act;
    Sound = λ s. Sound key s × (regions_held s.policy ≡ regions);
    Named = Named key;
  }

-- The laws of a system hold of it.
module _ (key : ℕ → ℕ) (differ : KeysDiffer key) (regions : List MemoryAccessRegion) where
  abbrev M : System
  M = core_system key regions

  -- an own step that goes by the core's number
  core_local : (s : State) (i : ℕ) (step : Core → CoreStep) → i < 8 → Sound key s
      → ◌≡◌ {A = Acted Part Answer}
      (record {
        answer = stepped (on_core s.cores i step).answer;
        part = record { core = core_of (on_core s.cores i step).cores i; entry = get_item s.map (key i) };
        counter = s.counter;
      })
      (let r = step (core_of s.cores i) in
      record { answer = stepped r.answer; part = record { core = r.core; entry = get_item s.map (key i) }; counter = s.counter })
  core_local s i step h sound =
      ap
      (λ (r : CoreStep).
      record { answer = stepped r.answer; part = record { core = r.core; entry = get_item s.map (key i) }; counter = s.counter })
      (core_step s.cores i step (omega arith) sound.eight)

  trap_local : (s : State) (i : ℕ) (registers : TrapRegisters) → i < 8 → Sound key s → regions_held s.policy ≡ regions
      → let t = trap_on s.policy s.cores s.counter i registers in
      ◌≡◌ {A = Acted Part Answer}
      (record {
        answer = trapped t.result;
        part = record { core = core_of t.cores i; entry = get_item s.map (key i) };
        counter = t.counter;
      })
      (M.act (trap i registers) (record { core = core_of s.cores i; entry = get_item s.map (key i) }) s.counter)
  trap_local s i registers h sound same =
      ap
      (λ (t : TrapStep).
      record {
        answer = trapped t.result;
        part = record { core = t.core; entry = get_item s.map (key i) };
        counter = t.counter;
      })
      (trap_step s.policy s.cores s.counter i registers (omega arith) sound.eight
      ∙ ap (λ r. handle_sync_lower r (core_of s.cores i) s.counter registers) same)

  local : (s : State) (c : CoreCall) (i : ℕ) → M.Sound s → Named key c → i < 8 → is_own key i c ≡ true
      → ◌≡◌ {A = Acted Part Answer}
      (record { answer = (core_called s c).answer; part = M.part i (core_called s c).state; counter = (core_called s c).state.counter })
      (M.act c (M.part i s) s.counter)
  unfolding save_on reply_on remove_item
  local s (save core x elr spsr) i (sound, same) n h o = rw (eqb-true core i o) (core_local s i _ h sound)
  local s (trap core registers) i (sound, same) n h o = rw (eqb-true core i o) (trap_local s i registers h sound same)
  local s (reply core result) i (sound, same) n h o = rw (eqb-true core i o) (core_local s i _ h sound)
  local s (gpr_write form core index value) i (sound, same) n h o =
      rw (eqb-true core i o, get_or-set_same s.cores i _ fresh_core (omega (arith, sound.eight)))
  local s (insert k value) i (sound, same) n h o =
      rw (
        eqb-true k (key i) o,
        insert_accepted key differ s.map sound.holds i h value,
        get_inserted key differ s.map sound.holds i h value,
      )
  local s (get k) i (sound, same) n h o = rw (eqb-true k (key i) o)
  local s (remove k) i (sound, same) n h o = rw (eqb-true k (key i) o, get_removed key differ s.map sound.holds i h)

  others : (s : State) (c : CoreCall) (i : ℕ) → M.Sound s → Named key c → i < 8 → is_own key i c ≡ false
      → M.part i (core_called s c).state ≡ M.part i s
  unfolding save_on reply_on
  others s (save core x elr spsr) i v n h o = rw (core_others s.cores core _ i (λ z. eqb-false core i o (sym z)))
  others s (trap core registers) i v n h o =
      rw (trap_others s.policy s.cores s.counter core registers i (λ z. eqb-false core i o (sym z)))
  others s (reply core result) i v n h o = rw (core_others s.cores core _ i (λ z. eqb-false core i o (sym z)))
  others s (gpr_write form core index value) i v n h o = rw (get_or-set_other s.cores core i _ fresh_core (λ z. eqb-false core i o (sym z)))
  others s (insert k value) i v n h o = rw (get_inserted_other s.map k (key i) value (eqb-false k (key i) o))
  others s (get k) i v n h o = refl
  others s (remove k) i v n h o = rw (get_removed_other s.map k (key i) (eqb-false k (key i) o))

  abbrev Owned : CoreCall → Type 0
  Owned c = ((i : ℕ) × (i < 8) × (is_own key i c ≡ true)) ⊎ ((s : State) → (core_called s c).state.counter ≡ s.counter)

  trap_owned : (core : ℕ) (registers : TrapRegisters) → Owned (trap core registers)
  trap_owned core registers = go (ltb 7 core) refl
    where
      go : (b : Bool) → ltb 7 core ≡ b → Owned (trap core registers)
      go true e = inr (λ s. trap_above s core registers e)
      go false e = inl (core, omega (arith, ltb-false 7 core e), eq-eqb core core refl)

  owned : (c : CoreCall) → Named key c → Owned c
  owned (save core x elr spsr) n = inr (λ s. refl)
  owned (trap core registers) n = trap_owned core registers
  owned (reply core result) n = inr (λ s. refl)
  owned (gpr_write form core index value) n = inr (λ s. refl)
  owned (insert k value) n = inr (λ s. refl)
  owned (get k) n = inr (λ s. refl)
  owned (remove k) n = inr (λ s. refl)

  -- a trap that leaves the counter does not load its word
  kept_no_load : (core : Core) (registers : TrapRegisters) (k : ℕ) → (handle_sync_lower regions core k registers).counter ≡ k
      → StepLoads regions core registers → ⊥
  kept_no_load core registers k e l =
      omega (arith, e, ap (λ (t : TrapStep). t.counter) (step_loads regions core registers k l))

  steady : (c : CoreCall) (l : Part) (k k' : ℕ) → (M.act c l k).counter ≡ k
      → M.act c l k' ≡ record { answer = (M.act c l k).answer; part = (M.act c l k).part; counter = k' }
  steady (save core x elr spsr) l k k' e = refl
  steady (trap core registers) l k k' e =
      ap
      (λ (t : TrapStep).
      record { answer = trapped t.result; part = record { core = t.core; entry = l.entry }; counter = t.counter })
      (step_steady regions l.core registers (kept_no_load l.core registers k e) k' k)
  steady (reply core result) l k k' e = refl
  steady (gpr_write form core index value) l k k' e = refl
  steady (insert j value) l k k' e = refl
  steady (get j) l k k' e = refl
  steady (remove j) l k k' e = refl

  pub core_laws : Laws (core_system key regions)
  core_laws = record {
    keeps = λ s c v n. (sound_next key differ s c v.0 n, ap regions_held (core_policy s c) ∙ v.1);
    local = local;
    others = others;
    owned = owned;
    steady = steady;
  }
