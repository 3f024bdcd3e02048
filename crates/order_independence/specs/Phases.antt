-- Order independence in phases (document 02, "Ask 5"): a stretch of calls that add to the policy, or one release, then core steps, and so on.
-- Assumes nothing.
use Rattle.std.specs.Prelude.{ℕ, ◌<◌, ◌≡◌, Bool, ◌⊎◌}
use mathlib.Core.List.{List, [], ◌∷◌, ◌++◌, Permᴰ}
use Rattle.lists.specs.Lists.{select}
use Rattle.stage2.specs.declared.Policy.{Policy}
use Rattle.stage2.specs.Policy.{release_range}
use Rattle.memory_import.specs.Changes.{PolicyCall, all_apart}
use Rattle.simple_map.specs.Keys.{KeysDiffer}
use Rattle.order_independence.specs.Builds.{accepted, AllAccepted}
use Rattle.order_independence.specs.Calls.{State, fresh_state, CoreCall, Answer, with_policy, after_changes, after_steps, answers_to}
use Rattle.order_independence.specs.Steps.{is_own, AllNamed, Loads}
use Rattle.order_independence.specs.OrderIndependence.{Separate, Same, AboveAnswer10, Sound}

-- a change of the policy: "sequences without a release", of calls that add to it, or one release
pub data Change : Type 0 where
  adding : (calls : List PolicyCall) → Change
  releasing : (base size : ℕ) → Change

-- a change of the policy, then core steps, "between two policy changes"
pub record Phase : Type 0 where
  pub change : Change
  pub steps : List CoreCall

-- the state after a change, after a phase, after a list of phases
abbrev pub after_change : State → Change → State
after_change s (adding calls) = after_changes s calls
after_change s (releasing base size) = with_policy s (release_range s.policy base size).policy

abbrev pub after_phase : State → Phase → State
after_phase s p = after_steps (after_change s p.change) p.steps

abbrev pub after_phases : State → List Phase → State
after_phases s [] = s
after_phases s (p ∷ ps) = after_phases (after_phase s p) ps

-- the second run's change beside the first's, which begins at the policy `p`: the accepted builder calls in whatever order, or the same
-- release
abbrev pub SameChange : Policy → Change → Change → Type 0
SameChange p (adding calls) (adding order) = Permᴰ (accepted p calls) (all_apart order)
SameChange p (adding calls) (releasing base size) = ⊥
SameChange p (releasing base size) (adding order) = ⊥
SameChange p (releasing base size) (releasing base' size') = (base ≡ base') × (size ≡ size')

-- the second run's phase beside the first's: the same core steps, each as often, each core's own in its order
pub record SamePhase (key : ℕ → ℕ) (p : Policy) (one two : Phase) : Type 0 where
  pub same_change : SameChange p one.change two.change
  pub same_steps : Permᴰ one.steps two.steps
  pub own_order : (i : ℕ) → i < 8 → select (is_own key i) one.steps ≡ select (is_own key i) two.steps

-- the same phase by phase, of runs of which the first begins at `s`
abbrev pub SamePhases : (ℕ → ℕ) → State → List Phase → List Phase → Type 0
SamePhases key s [] [] = Unit {0}
SamePhases key s [] (two ∷ again) = ⊥
SamePhases key s (one ∷ run) [] = ⊥
SamePhases key s (one ∷ run) (two ∷ again) = SamePhase key s.policy one two × SamePhases key (after_phase s one) run again

-- core `i` loads the counter word somewhere in a run
abbrev pub LoadsIn : State → ℕ → List Phase → Type 0
LoadsIn s i [] = ⊥
LoadsIn s i (p ∷ ps) = Loads (after_change s p.change) i p.steps ⊎ LoadsIn (after_phase s p) i ps

-- every step of a run names a core or a key of the eight
abbrev pub NamedIn : (ℕ → ℕ) → List Phase → Type 0
NamedIn key [] = Unit {0}
NamedIn key (p ∷ ps) = AllNamed key p.steps × NamedIn key ps

-- "where demand 3's conditions on keys and the counter word hold over the whole run": asked of the first run alone
pub record SeparateRun (key : ℕ → ℕ) (s : State) (run : List Phase) : Type 0 where
  pub one_loader : (i j : ℕ) → LoadsIn s i run → LoadsIn s j run → i ≡ j
  pub keys_differ : KeysDiffer key
  pub all_named : NamedIn key run

-- the same conditions asked of each phase by itself, which asks less: another core may load in another phase
abbrev pub SeparateEach : (ℕ → ℕ) → State → List Phase → Type 0
SeparateEach key s [] = Unit {0}
SeparateEach key s (p ∷ ps) = Separate key (after_change s p.change) p.steps × SeparateEach key (after_phase s p) ps

-- every call that adds is accepted again, or the release answers the same, from the policies `p` and `q`
abbrev pub ChangeFound : Policy → Policy → Change → Type 0
ChangeFound p q (adding order) = AllAccepted q order
ChangeFound p q (releasing base size) = (release_range p base size).answer ≡ (release_range q base size).answer

-- what is found of a phase, of runs that are at `s` and at `t` before it
pub record PhaseFound (key : ℕ → ℕ) (s t : State) (one two : Phase) : Type 0 where
  pub change_again : ChangeFound s.policy t.policy two.change
  pub same_end : Same key (after_phase s one) (after_phase t two)
  pub same_answers : (i : ℕ) → i < 8
      → answers_to (is_own key i) (after_change s one.change) one.steps ≡ answers_to (is_own key i) (after_change t two.change) two.steps
  pub above_10 : AboveAnswer10 (after_change s one.change) one.steps
  pub above_10_again : AboveAnswer10 (after_change t two.change) two.steps

-- the same of every phase
abbrev pub EachFound : (ℕ → ℕ) → State → State → List Phase → List Phase → Type 0
EachFound key s t [] [] = Unit {0}
EachFound key s t [] (two ∷ again) = ⊥
EachFound key s t (one ∷ run) [] = ⊥
EachFound key s t (one ∷ run) (two ∷ again) = PhaseFound key s t one two × EachFound key (after_phase s one) (after_phase t two) run again

-- the answers over a whole run to the steps that fit, in order
abbrev pub answers_over : (CoreCall → Bool) → State → List Phase → List Answer
answers_over fits s [] = []
answers_over fits s (p ∷ ps) = answers_to fits (after_change s p.change) p.steps ++ answers_over fits (after_phase s p) ps

-- what is found of whole runs
pub record RunFound (key : ℕ → ℕ) (s t : State) (run again : List Phase) : Type 0 where
  pub each_phase : EachFound key s t run again
  -- each core's answers over the whole run, one by one, each with every result field
  pub whole_answers : (i : ℕ) → i < 8 → answers_over (is_own key i) s run ≡ answers_over (is_own key i) t again
  pub last_state : Same key (after_phases s run) (after_phases t again)

-- the claim, for runs from `s` and from `t`
abbrev pub PhaseIndependentFrom : (ℕ → ℕ) → State → State → Type 0
PhaseIndependentFrom key s t =
    (run again : List Phase) → SamePhases key s run again → SeparateRun key s run → RunFound key s t run again

-- the same where the conditions are asked phase by phase
abbrev pub PhaseIndependentEach : (ℕ → ℕ) → State → State → Type 0
PhaseIndependentEach key s t =
    (run again : List Phase) → SamePhases key s run again → SeparateEach key s run → RunFound key s t run again

-- both runs from fresh
abbrev pub PhaseIndependent : Type 0
PhaseIndependent = (key : ℕ → ℕ) → PhaseIndependentFrom key fresh_state fresh_state

-- from any two states that are the same and sound
abbrev pub PhaseIndependentAny : Type 0
PhaseIndependentAny = (key : ℕ → ℕ) (s t : State) → Sound key s → Sound key t → Same key s t → PhaseIndependentFrom key s t
