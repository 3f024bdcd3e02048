-- Any list of calls is a list of phases, with the same end and the same answers of each core; calls that may stand anywhere are refused, so they
-- may be struck; hence order independence of any two lists of calls. Assumes nothing.
use Prim.Native.Nat.{ℕ, ◌<◌}
use mathlib.Core.Path.{◌≡◌, refl, sym, ◌∙◌, ap, subst₂}
use mathlib.Core.Bool.{Bool, true, false, cond, true≢false}
use mathlib.Core.List.Memᴰ
use mathlib.Core.List.{List, [], ◌∷◌, ◌++◌, Memᴰ}
use mathlib.Core.Logic.{◌⊎◌, inl, inr}
use native.Mathlib.Omega.{arith}
use borrow.Author.Tests.{ltb-true, ne_eqb, eqb-false, not-true}
use lib.Dec.{eqb, ltb}
use Rattle.memory_import.specs.Changes.{PolicyCall}
use Rattle.order_independence.specs.Calls.{State, fresh_state, CoreCall, save, trap, reply, gpr_write, insert, get, remove, HostCall, change, core_call, release_of, Answer, call, core_called, after_steps, answers_to, call_all, IsRefused}
use Rattle.order_independence.specs.Steps.{is_own, is_above}
use Rattle.order_independence.specs.OrderIndependence.{Same, Sound}
use Rattle.order_independence.specs.Phases.{Change, adding, releasing, Phase, after_phases, answers_over}
use Rattle.order_independence.specs.AnyCalls.{phase, prepended_to, prepended, split, phases_of, core_answers, is_struck, struck_calls, Is10, AboveIs10, CallsIndependentFrom}
use Rattle.order_independence.proofs.Calls.{refusal_keeps, refusal_zero}
use Rattle.order_independence.proofs.Runs.{fresh_sound, same_refl, above_is_10}
use Rattle.order_independence.proofs.Phases.{phase_independent_from}

-- the state after a call that adds
abbrev added : State → PolicyCall → State
added s c = (call s (change c)).state

-- such a call before phases
prepended_to-run : (c : PolicyCall) (d : Change) (steps : List CoreCall) (rest : List Phase) (s : State)
    → after_phases s (prepended_to c d steps rest) ≡ after_phases (added s c) (phase d steps ∷ rest)
prepended_to-run c (adding calls) steps rest s = refl
prepended_to-run c (releasing base size) steps rest s = refl

prepended-run : (c : PolicyCall) (first : List CoreCall) (rest : List Phase) (s : State)
    → after_phases s (prepended c first rest) ≡ after_phases (after_steps (added s c) first) rest
prepended-run c [] [] s = refl
prepended-run c [] (p ∷ ps) s = prepended_to-run c p.change p.steps ps s
prepended-run c (x ∷ xs) rest s = refl

-- Any list of calls is a list of phases.
pub phases_run : (cs : List HostCall) (s : State) → call_all s cs ≡ after_phases s (phases_of cs)
phases_run [] s = refl
phases_run (change c ∷ cs) s = phases_run cs (added s c) ∙ sym (prepended-run c (split cs).first (split cs).rest s)
phases_run (release_of base size ∷ cs) s = phases_run cs (call s (release_of base size)).state
phases_run (core_call c ∷ cs) s = phases_run cs (core_called s c).state

-- The same of the answers.
module _ (fits : CoreCall → Bool) where
  prepended_to-answers : (c : PolicyCall) (d : Change) (steps : List CoreCall) (rest : List Phase) (s : State)
      → answers_over fits s (prepended_to c d steps rest) ≡ answers_over fits (added s c) (phase d steps ∷ rest)
  prepended_to-answers c (adding calls) steps rest s = refl
  prepended_to-answers c (releasing base size) steps rest s = refl

  prepended-answers : (c : PolicyCall) (first : List CoreCall) (rest : List Phase) (s : State)
      → answers_over fits s (prepended c first rest) ≡ answers_to fits (added s c) first ++ answers_over fits (after_steps (added s c) first) rest
  prepended-answers c [] [] s = refl
  prepended-answers c [] (p ∷ ps) s = prepended_to-answers c p.change p.steps ps s
  prepended-answers c (x ∷ xs) rest s = refl

  pub phases_answers : (cs : List HostCall) (s : State) → core_answers fits s cs ≡ answers_over fits s (phases_of cs)
  phases_answers [] s = refl
  phases_answers (change c ∷ cs) s =
      phases_answers cs (added s c) ∙ sym (prepended-answers c (split cs).first (split cs).rest s)
  phases_answers (release_of base size ∷ cs) s = phases_answers cs (call s (release_of base size)).state
  phases_answers (core_call c ∷ cs) s = go (fits c) (phases_answers cs (core_called s c).state)
    where
      next : State
      next = (core_called s c).state

      here : List Answer
      here = answers_to fits next (split cs).first

      later : List Answer
      later = answers_over fits (after_steps next (split cs).first) (split cs).rest

      go : (b : Bool) → core_answers fits next cs ≡ here ++ later
          → cond b ((core_called s c).answer ∷ core_answers fits next cs) (core_answers fits next cs) ≡ cond b ((core_called s c).answer ∷ here) here ++ later
      go true e = ap (◌∷◌ (core_called s c).answer) e
      go false e = e

-- A call that may stand anywhere is refused.
struck_refused : (s : State) (c : HostCall) → is_struck s c ≡ true → IsRefused s c
struck_refused s (change c) e = eqb-false _ 0 (not-true _ e)
struck_refused s (release_of base size) e = eqb-false _ 0 (not-true _ e)
struck_refused s (core_call c) e = λ z. omega (arith, above_is_10 s c e)

-- so the end is the same without such calls
struck_run : (cs : List HostCall) (s : State) → call_all s (struck_calls s cs) ≡ call_all s cs
struck_run [] s = refl
struck_run (c ∷ cs) s = go (is_struck s c) refl (struck_run cs (call s c).state)
  where
    left : List HostCall
    left = struck_calls (call s c).state cs

    go : (b : Bool) → is_struck s c ≡ b → call_all (call s c).state left ≡ call_all (call s c).state cs
        → call_all s (cond b left (c ∷ left)) ≡ call_all (call s c).state cs
    go true e ih = ap (λ t. call_all t left) (sym (refusal_keeps s c (struck_refused s c e))) ∙ ih
    go false e ih = ih

-- and so are the answers to steps that are none of them
module _ (fits : CoreCall → Bool) (none : (c : CoreCall) → is_above c ≡ true → fits c ≡ false) where
  -- the answer of one call, before the answers to those after it
  abbrev said : State → HostCall → List Answer → List Answer
  said s (change c) rest = rest
  said s (release_of base size) rest = rest
  said s (core_call c) rest = cond (fits c) ((core_called s c).answer ∷ rest) rest

  answers_cons : (s : State) (c : HostCall) (cs : List HostCall) → core_answers fits s (c ∷ cs) ≡ said s c (core_answers fits (call s c).state cs)
  answers_cons s (change c) cs = refl
  answers_cons s (release_of base size) cs = refl
  answers_cons s (core_call c) cs = refl

  said_struck : (s : State) (c : HostCall) (rest : List Answer) → is_struck s c ≡ true → said s c rest ≡ rest
  said_struck s (change c) rest e = refl
  said_struck s (release_of base size) rest e = refl
  said_struck s (core_call c) rest e = rw (none c e)

  struck_said : (cs : List HostCall) (s : State) → core_answers fits s (struck_calls s cs) ≡ core_answers fits s cs
  struck_said [] s = refl
  struck_said (c ∷ cs) s = go (is_struck s c) refl (struck_said cs (call s c).state) ∙ sym (answers_cons s c cs)
    where
      left : List HostCall
      left = struck_calls (call s c).state cs

      go : (b : Bool) → is_struck s c ≡ b → core_answers fits (call s c).state left ≡ core_answers fits (call s c).state cs
          → core_answers fits s (cond b left (c ∷ left)) ≡ said s c (core_answers fits (call s c).state cs)
      go true e ih =
          ap (λ t. core_answers fits t left) (sym (refusal_keeps s c (struck_refused s c e))) ∙ ih ∙ sym (said_struck s c _ e)
      go false e ih = answers_cons s c left ∙ ap (said s c) ih

-- A step on a number above 7 is no core's own.
above_core : (core i : ℕ) → ltb 7 core ≡ true → i < 8 → eqb core i ≡ false
above_core core i e h = ne_eqb core i (λ z. omega (arith, ltb-true 7 core e))

above_not_own : (key : ℕ → ℕ) (i : ℕ) → i < 8 → (c : CoreCall) → is_above c ≡ true → is_own key i c ≡ false
above_not_own key i h (save core x elr spsr) e = above_core core i e h
above_not_own key i h (trap core registers) e = above_core core i e h
above_not_own key i h (reply core result) e = above_core core i e h
above_not_own key i h (gpr_write form core index value) e = absurd (true≢false (sym e))
above_not_own key i h (insert k value) e = absurd (true≢false (sym e))
above_not_own key i h (get k) e = absurd (true≢false (sym e))
above_not_own key i h (remove k) e = absurd (true≢false (sym e))

-- All such steps answer 10.
any_above_10 : (cs : List HostCall) (s : State) → AboveIs10 s cs
any_above_10 [] s a m = absurd (Memᴰ.not-nil m)
any_above_10 (change c ∷ cs) s a m = any_above_10 cs (call s (change c)).state a m
any_above_10 (release_of base size ∷ cs) s a m = any_above_10 cs (call s (release_of base size)).state a m
any_above_10 (core_call c ∷ cs) s a m = go (is_above c) refl m (any_above_10 cs (core_called s c).state a)
  where
    later : List Answer
    later = core_answers is_above (core_called s c).state cs

    here : is_above c ≡ true → (a ≡ (core_called s c).answer) ⊎ Memᴰ a later → (Memᴰ a later → Is10 a) → Is10 a
    here e (inl z) below =
        let ten = above_is_10 s c e in
        rw z (ten, refusal_zero s (core_call c) (λ y. omega arith))
    here e (inr k) below = below k

    go : (b : Bool) → is_above c ≡ b → Memᴰ a (cond b ((core_called s c).answer ∷ later) later) → (Memᴰ a later → Is10 a) → Is10 a
    go true e k below = here e (Memᴰ.cases_cons k) below
    go false e k below = below k

-- Order independence of any two lists of calls.
pub calls_independent_from : (key : ℕ → ℕ) (s t : State) → Sound key s → Sound key t → Same key s t → CallsIndependentFrom key s t
calls_independent_from key s t sound-s sound-t same one two done apart =
    let run = struck_calls s one in
    let again = struck_calls t two in
    let r = phase_independent_from key s t sound-s sound-t same (phases_of run) (phases_of again) done apart in
    record {
      same_end = subst₂ (Same key) (sym (phases_run run s) ∙ struck_run one s) (sym (phases_run again t) ∙ struck_run two t) r.last_state;
      same_answers = λ i h.
          let fits = is_own key i in
          let none = above_not_own key i h in
          sym (struck_said fits none one s)
          ∙ phases_answers fits run s
          ∙ r.whole_answers i h
          ∙ sym (phases_answers fits again t)
          ∙ struck_said fits none two t;
      above_10 = any_above_10 one s;
      above_10_again = any_above_10 two t;
      each_phase = r.each_phase;
    }

pub calls_independent : (key : ℕ → ℕ) → CallsIndependentFrom key fresh_state fresh_state
calls_independent key =
    calls_independent_from key fresh_state fresh_state (fresh_sound key) (fresh_sound key) (same_refl key fresh_state)
