-- Laws on lists of builder calls and of core steps: what they keep, and what holds of their answers. Assumes nothing.
use Prim.Native.Nat.{ℕ}
use mathlib.Core.Path.{◌≡◌, refl, sym, ◌∙◌, ap}
use mathlib.Core.Bool.{Bool, true, false, cond, true≢false}
use mathlib.Core.List.Memᴰ
use mathlib.Core.List.{List, [], ◌∷◌, Memᴰ}
use mathlib.Core.Logic.{◌⊎◌, inl, inr}
use native.Mathlib.Omega.{arith}
use Rattle.memory_import.specs.Changes.{PolicyCall}
use Rattle.memory_import.proofs.Changes.{change_all_keeps}
use Rattle.stage2.proofs.WellFormed.{fresh_well_formed}
use Rattle.simple_map.specs.Map.{insert_number}
use Rattle.simple_map.specs.Keys.{KeysDiffer}
use Rattle.simple_map.proofs.Keys.{empty_holds, insert_accepted}
use Rattle.hypervisor.specs.Cores.{fresh_cores}
use Rattle.hypervisor.proofs.Refusals.{save_number, reply-number, trap_number_lem}
use Rattle.order_independence.specs.Calls.{State, fresh_state, CoreCall, save, trap, reply, gpr_write, insert, get, remove, core_call, Answer, answer_number, answer_values, AllZero, core_called, after_changes, after_steps, answers_to}
use Rattle.order_independence.specs.Steps.{is_above, Named, AllNamed}
use Rattle.order_independence.specs.OrderIndependence.{AboveAnswer10, Same, Sound}
use Rattle.order_independence.proofs.Calls.{refusal_zero}
use Rattle.order_independence.proofs.CoreCalls.{core_policy, sound_next}

-- The fresh state is sound, and each call keeps a state so.
pub fresh_sound : (key : ℕ → ℕ) → Sound key fresh_state
unfolding fresh_state fresh_cores
fresh_sound key = record { well_formed = fresh_well_formed; eight = refl; holds = empty_holds key }

pub sound_changes : (key : ℕ → ℕ) (s : State) (calls : List PolicyCall) → Sound key s → Sound key (after_changes s calls)
sound_changes key s calls sound = record {
  well_formed = change_all_keeps s.policy calls sound.well_formed;
  eight = sound.eight;
  holds = sound.holds;
}

pub sound_steps : (key : ℕ → ℕ) → KeysDiffer key → (steps : List CoreCall) (s : State) → Sound key s → AllNamed key steps
    → Sound key (after_steps s steps)
sound_steps key differ [] s sound named = sound
sound_steps key differ (c ∷ cs) s sound named =
    sound_steps key differ cs (core_called s c).state (sound_next key differ s c sound (named c (Memᴰ.head refl)))
    (λ d m. named d (Memᴰ.tail m))

-- so where one run ends another can begin
pub sound_run : (key : ℕ → ℕ) → KeysDiffer key → (s : State) (calls : List PolicyCall) (steps : List CoreCall) → Sound key s
    → AllNamed key steps → Sound key (after_steps (after_changes s calls) steps)
sound_run key differ s calls steps sound = sound_steps key differ steps (after_changes s calls) (sound_changes key s calls sound)

-- a list of core steps leaves the policy
pub steps_policy : (steps : List CoreCall) (s : State) → (after_steps s steps).policy ≡ s.policy
steps_policy [] s = refl
steps_policy (c ∷ cs) s = steps_policy cs (core_called s c).state ∙ core_policy s c

-- a state is the same as itself
pub same_refl : (key : ℕ → ℕ) (s : State) → Same key s s
same_refl key s = record {
  policies = record { regions = refl; allowed = refl };
  counters = refl;
  all_cores = refl;
  entries = λ i h. refl;
}

-- What holds of each answer, in a state and to a step of a kind, holds of all answers of a run to such steps.
module _ (fits : CoreCall → Bool) (P : Answer → Type 0) (Q : State → Type 0) (R : CoreCall → Type 0)
    (keeps : (s : State) (c : CoreCall) → Q s → R c → Q (core_called s c).state)
    (each : (s : State) (c : CoreCall) → Q s → R c → fits c ≡ true → P (core_called s c).answer)
  where
    all_answers : (steps : List CoreCall) (s : State) → Q s → ((c : CoreCall) → Memᴰ c steps → R c) → (a : Answer)
        → Memᴰ a (answers_to fits s steps) → P a
    all_answers [] s q r a m = absurd (Memᴰ.not-nil m)
    all_answers (c ∷ cs) s q r a m =
        go (fits c) refl m
        (all_answers cs (core_called s c).state (keeps s c q (r c (Memᴰ.head refl))) (λ d k. r d (Memᴰ.tail k)) a)
      where
        later : List Answer
        later = answers_to fits (core_called s c).state cs

        here : fits c ≡ true → (a ≡ (core_called s c).answer) ⊎ Memᴰ a later → (Memᴰ a later → P a) → P a
        here e (inl z) below = rw z (each s c q (r c (Memᴰ.head refl)) e)
        here e (inr k) below = below k

        go : (b : Bool) → fits c ≡ b → Memᴰ a (cond b ((core_called s c).answer ∷ later) later) → (Memᴰ a later → P a) → P a
        go true e k below = here e (Memᴰ.cases_cons k) below
        go false e k below = below k

-- 10: "number above 7"
pub above_is_10 : (s : State) (c : CoreCall) → is_above c ≡ true → answer_number (core_called s c).answer ≡ 10
above_is_10 s (save core x elr spsr) e = save_number s.cores core x elr spsr ∙ rw e
above_is_10 s (trap core registers) e = trap_number_lem s.policy s.cores s.counter core registers ∙ rw e
above_is_10 s (reply core result) e = reply-number s.cores core result ∙ rw e
above_is_10 s (gpr_write form core index value) e = absurd (true≢false (sym e))
above_is_10 s (insert k value) e = absurd (true≢false (sym e))
above_is_10 s (get k) e = absurd (true≢false (sym e))
above_is_10 s (remove k) e = absurd (true≢false (sym e))

pub all_above_10 : (steps : List CoreCall) (s : State) → AboveAnswer10 s steps
all_above_10 steps s =
    all_answers is_above (λ a. (answer_number a ≡ 10) × AllZero (answer_values a)) (λ t. Unit {0}) (λ c. Unit {0}) (λ t c q r. tt)
    (λ t c q r e.
    let ten = above_is_10 t c e in
    (ten, refusal_zero t (core_call c) (λ z. omega arith)))
    steps s tt (λ c m. tt)

-- an insert
abbrev pub is_insert : CoreCall → Bool
is_insert (save core x elr spsr) = false
is_insert (trap core registers) = false
is_insert (reply core result) = false
is_insert (gpr_write form core index value) = false
is_insert (insert k value) = true
is_insert (get k) = false
is_insert (remove k) = false

-- no insert finds the suspend map full: 16 "key not held, all 8 places taken"
insert_is_0 : (key : ℕ → ℕ) → KeysDiffer key → (s : State) (c : CoreCall) → Sound key s → Named key c → is_insert c ≡ true
    → answer_number (core_called s c).answer ≡ 0
insert_is_0 key differ s (save core x elr spsr) sound n e = absurd (true≢false (sym e))
insert_is_0 key differ s (trap core registers) sound n e = absurd (true≢false (sym e))
insert_is_0 key differ s (reply core result) sound n e = absurd (true≢false (sym e))
insert_is_0 key differ s (gpr_write form core index value) sound n e = absurd (true≢false (sym e))
insert_is_0 key differ s (insert k value) sound (i, h, z) e =
    rw z (ap insert_number (insert_accepted key differ s.map sound.holds i h value))
insert_is_0 key differ s (get k) sound n e = absurd (true≢false (sym e))
insert_is_0 key differ s (remove k) sound n e = absurd (true≢false (sym e))

pub inserts-accepted : (key : ℕ → ℕ) → KeysDiffer key → (steps : List CoreCall) (s : State) → Sound key s → AllNamed key steps
    → (a : Answer) → Memᴰ a (answers_to is_insert s steps) → answer_number a ≡ 0
inserts-accepted key differ =
    all_answers is_insert (λ a. answer_number a ≡ 0) (Sound key) (Named key) (sound_next key differ) (insert_is_0 key differ)
