-- Any list of the host's calls as a list of phases, and order independence of any two lists. Assumes nothing.
use Rattle.std.specs.Prelude.{ℕ, ◌<◌, ◌≡◌, Bool, not, cond}
use mathlib.Core.List.{List, [], ◌∷◌, Memᴰ}
use Rattle.memory_import.specs.Changes.{PolicyCall, add, release}
use Rattle.order_independence.specs.Calls.{State, CoreCall, HostCall, change, core_call, release_of, Answer, answer_number, answer_values, AllZero, call, core_called, call_all}
use Rattle.order_independence.specs.Steps.{is_own, is_above}
use Rattle.order_independence.specs.StillHeld.{accepts_change}
use Rattle.order_independence.specs.OrderIndependence.{Same}
use Rattle.order_independence.specs.Phases.{Change, adding, releasing, Phase, SamePhases, SeparateRun, EachFound}

-- a phase
abbrev pub phase : Change → List CoreCall → Phase
phase c steps = record { change = c; steps = steps }

-- core steps, and the phases after them
pub record Split : Type 0 where
  pub first : List CoreCall
  pub rest : List Phase

-- a call that adds, before a phase: it joins a stretch of such calls
abbrev pub prepended_to : PolicyCall → Change → List CoreCall → List Phase → List Phase
prepended_to c (adding calls) steps rest = phase (adding (c ∷ calls)) steps ∷ rest
prepended_to c (releasing base size) steps rest = phase (adding (c ∷ [])) [] ∷ phase (releasing base size) steps ∷ rest

-- a call that adds, before core steps and phases: with core steps between them, it is a stretch by itself
abbrev pub prepended : PolicyCall → List CoreCall → List Phase → List Phase
prepended c [] [] = phase (adding (c ∷ [])) [] ∷ []
prepended c [] (p ∷ ps) = prepended_to c p.change p.steps ps
prepended c (x ∷ xs) ps = phase (adding (c ∷ [])) (x ∷ xs) ∷ ps

-- a list of calls: the core steps before the first call that changes the policy, and the phases from there on
abbrev pub split : List HostCall → Split
split [] = record { first = []; rest = [] }
split (change c ∷ cs) = record { first = []; rest = prepended c (split cs).first (split cs).rest }
split (release_of base size ∷ cs) = record { first = []; rest = phase (releasing base size) (split cs).first ∷ (split cs).rest }
split (core_call c ∷ cs) = record { first = c ∷ (split cs).first; rest = (split cs).rest }

-- a list of calls, as phases
abbrev pub phases_of : List HostCall → List Phase
phases_of cs = phase (adding []) (split cs).first ∷ (split cs).rest

-- the answers to the core steps of a list of calls that fit, in order
abbrev pub core_answers : (CoreCall → Bool) → State → List HostCall → List Answer
core_answers fits s [] = []
core_answers fits s (change c ∷ cs) = core_answers fits (call s (change c)).state cs
core_answers fits s (release_of base size ∷ cs) = core_answers fits (call s (release_of base size)).state cs
core_answers fits s (core_call c ∷ cs) =
    cond (fits c) ((core_called s c).answer ∷ core_answers fits (core_called s c).state cs) (core_answers fits (core_called s c).state cs)

-- a call that may stand anywhere: one that would change the policy and is refused, which is no policy change, or a step on a number above 7
abbrev pub is_struck : State → HostCall → Bool
is_struck s (change c) = not (accepts_change s.policy (add c))
is_struck s (release_of base size) = not (accepts_change s.policy (release base size))
is_struck s (core_call c) = is_above c

-- the calls of a run but for those
abbrev pub struck_calls : State → List HostCall → List HostCall
struck_calls s [] = []
struck_calls s (c ∷ cs) = cond (is_struck s c) (struck_calls (call s c).state cs) (c ∷ struck_calls (call s c).state cs)

-- an answer is refusal 10, with every other result field 0
abbrev pub Is10 : Answer → Type 0
Is10 a = (answer_number a ≡ 10) × AllZero (answer_values a)

-- steps on a number above 7 answer 10
abbrev pub AboveIs10 : State → List HostCall → Type 0
AboveIs10 s calls = (a : Answer) → Memᴰ a (core_answers is_above s calls) → Is10 a

-- what is found of two runs
pub record CallsFound (key : ℕ → ℕ) (s t : State) (one two : List HostCall) : Type 0 where
  pub same_end : Same key (call_all s one) (call_all t two)
  pub same_answers : (i : ℕ) → i < 8 → core_answers (is_own key i) s one ≡ core_answers (is_own key i) t two
  pub above_10 : AboveIs10 s one
  pub above_10_again : AboveIs10 t two
  pub each_phase : EachFound key s t (phases_of (struck_calls s one)) (phases_of (struck_calls t two))

-- the claim: of two lists of calls that have, but for such calls, the same phases
abbrev pub CallsIndependentFrom : (ℕ → ℕ) → State → State → Type 0
CallsIndependentFrom key s t =
    (one two : List HostCall)
    → SamePhases key s (phases_of (struck_calls s one)) (phases_of (struck_calls t two))
    → SeparateRun key s (phases_of (struck_calls s one))
    → CallsFound key s t one two
