-- Demand 3 (document 01, "Two runs side by side"): the order of the calls does not matter where it must not. Assumes nothing.
use Rattle.std.specs.Prelude.{ℕ, ◌<◌, ◌≡◌, length}
use mathlib.Core.List.{List, Memᴰ, Permᴰ}
use Rattle.lists.specs.Lists.{select}
use Rattle.stage2.specs.declared.Policy.{Policy}
use Rattle.stage2.specs.Builds.{WellFormed}
use Rattle.memory_import.specs.Changes.{PolicyCall, all_apart}
use Rattle.order_independence.specs.Builds.{accepted, AllAccepted, SamePolicy}
use Rattle.simple_map.specs.Map.{get_item}
use Rattle.simple_map.specs.Keys.{KeysDiffer, HoldsKeys}
use Rattle.order_independence.specs.Calls.{State, fresh_state, CoreCall, Answer, answer_number, answer_values, AllZero, after_changes, after_steps, answers_to}
use Rattle.order_independence.specs.Steps.{is_own, is_above, AllNamed, Loads}

-- "Done again": the second run's calls and steps beside the first's, which begins at the policy `p`
pub record Reordered (key : ℕ → ℕ) (p : Policy) (calls order : List PolicyCall) (steps mixed : List CoreCall) : Type 0 where
  -- "the builder calls that were accepted, in whatever order": those of the second run, imports taken apart
  pub same_calls : Permᴰ (accepted p calls) (all_apart order)
  -- "then the same core steps", "each as often"
  pub same_steps : Permᴰ steps mixed
  -- "each core's own in its own order, whatever the mixing between cores"
  pub own_order : (i : ℕ) → i < 8 → select (is_own key i) steps ≡ select (is_own key i) mixed

-- "This holds where": asked of the first run's core steps alone, which begin at the state `s`
pub record Separate (key : ℕ → ℕ) (s : State) (steps : List CoreCall) : Type 0 where
  -- "at most one of the eight cores loads the counter word"
  pub one_loader : (i j : ℕ) → Loads s i steps → Loads s j steps → i ≡ j
  -- "each core parks, looks up and removes under one key that no other core uses"
  pub keys_differ : KeysDiffer key
  pub all_named : AllNamed key steps

-- "Equal are: the regions ..; the allowed ranges ..; the counter; every field of each core; its parked entry, which is what look-up of its
-- key then gives"
pub record Same (key : ℕ → ℕ) (s t : State) : Type 0 where
  pub policies : SamePolicy s.policy t.policy
  pub counters : s.counter ≡ t.counter
  pub all_cores : s.cores ≡ t.cores
  pub entries : (i : ℕ) → i < 8 → get_item s.map (key i) ≡ get_item t.map (key i)

-- "those on a number above 7 may stand anywhere, and each answers 10", with every other result field 0
abbrev pub AboveAnswer10 : State → List CoreCall → Type 0
AboveAnswer10 s steps = (a : Answer) → Memᴰ a (answers_to is_above s steps) → (answer_number a ≡ 10) × AllZero (answer_values a)

-- "Found", of the runs from `s` and from `t`
pub record Found (key : ℕ → ℕ) (s t : State) (calls order : List PolicyCall) (steps mixed : List CoreCall) : Type 0 where
  -- "every builder call accepted again", and every import but that of a slice that the reader refuses
  pub accepted_again : AllAccepted t.policy order
  -- "and at the end the same .."
  pub same_end : Same key (after_steps (after_changes s calls) steps) (after_steps (after_changes t order) mixed)
  -- "its answers, first with first and so on, each with every result field beside the state"
  pub same_answers : (i : ℕ) → i < 8
      → answers_to (is_own key i) (after_changes s calls) steps ≡ answers_to (is_own key i) (after_changes t order) mixed
  pub above_10 : AboveAnswer10 (after_changes s calls) steps
  pub above_10_again : AboveAnswer10 (after_changes t order) mixed

-- the claim, for runs from `s` and from `t`: calls that change the policy, builder calls and imports, then core steps
abbrev pub OrderIndependentFrom : (ℕ → ℕ) → State → State → Type 0
OrderIndependentFrom key s t =
    (calls order : List PolicyCall) (steps mixed : List CoreCall)
    → Reordered key s.policy calls order steps mixed
    → Separate key (after_changes s calls) steps
    → Found key s t calls order steps mixed

-- demand 3: both runs "from fresh"
abbrev pub OrderIndependent : Type 0
OrderIndependent = (key : ℕ → ℕ) → OrderIndependentFrom key fresh_state fresh_state

-- what a state has that such runs reach from fresh, and from which others may begin
pub record Sound (key : ℕ → ℕ) (s : State) : Type 0 where
  pub well_formed : WellFormed s.policy
  pub eight : length s.cores ≡ 8
  pub holds : HoldsKeys key s.map
