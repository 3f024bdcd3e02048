-- A core waits exactly between a forwarded call and its reply. Assumes nothing.
use Prim.Native.Nat.{ℕ, zero, suc, ◌≤◌}
use mathlib.Core.Path.{◌≡◌, refl, sym, ◌∙◌, ap}
use mathlib.Core.Bool.{Bool, true, false, ◌&&◌, cond, true≢false}
use mathlib.Core.List.{List, [], ◌∷◌}
use native.Mathlib.Omega.{arith}
use borrow.Author.Tests.{eqb-true, eqb-false}
use lib.Dec.{eqb}
use lib.ListN.{length, set, replicate, length-set}
use lib.Seq.{get_or-set_same, get_or-set_other}
use Rattle.stage2.specs.Policy.{regions_held}
use Rattle.forwarded_call.specs.declared.HvcReply.{HvcReply}
use Rattle.forwarded_call.specs.ForwardedCall.{waits, reply_core}
use Rattle.forwarded_call.proofs.Laws.{reply-done}
use Rattle.exceptions.specs.declared.Core.{Core}
use Rattle.exceptions.specs.Registers.{Wait}
use Rattle.exceptions.specs.Registers.{fresh_core, write_gpr, core_of}
use Rattle.exceptions.proofs.Laws.{write_wait}
use Rattle.data_abort.specs.declared.TrapRegisters.{TrapRegisters}
use Rattle.core_answers.specs.declared.CoreStep.{CoreStep}
use Rattle.core_answers.specs.declared.TrapStep.{TrapStep}
use Rattle.hypervisor.specs.declared.Trapped.{Trapped}
use Rattle.core_answers.specs.Answers.{core_number, is_forwarded}
use Rattle.hypervisor.specs.Cores.{fresh_cores, save_core, on_core, save_on, reply_on, trap_on}
use Rattle.order_independence.specs.Calls.{State, fresh_state, HostCall, change, core_call, release_of, GprForm, save, trap, reply, gpr_write, insert, get, remove, call, call_all, wait_of, outstanding_after, outstanding}
use Rattle.hypervisor.proofs.Waiting.{save_wait, trap_waits}
use Rattle.hypervisor.proofs.Steps.{trap_step, trap_others, trap_places, core_step, core_others, core_places}
use Rattle.std.specs.Prelude.{None, Some}

-- One call, seen from core `i`: its own steps do this to its wait, and all others leave it.
module _ (s : State) (i : ℕ) (within : i ≤ 7) (places : length s.cores ≡ 8) where
  -- a step of core `j`, by whether that is core `i`
  by_core : (after : ℕ → List Core) (own : Bool → ℕ → Bool)
      → waits (core_of (after i) i).wait ≡ own true i
      → ((j : ℕ) → (i ≡ j → ⊥) → waits (core_of (after j) i).wait ≡ own false j)
      → (j : ℕ) → waits (core_of (after j) i).wait ≡ own (eqb j i) j
  by_core after own here elsewhere j = go (eqb j i) refl
    where
      go : (b : Bool) → eqb j i ≡ b → waits (core_of (after j) i).wait ≡ own b j
      go true e = rw (eqb-true j i e) here
      go false e = elsewhere j (λ z. eqb-false j i e (sym z))

  trap_after : (registers : TrapRegisters) (j : ℕ)
      → waits (wait_of (call s (core_call (trap j registers))).state i)
      ≡ outstanding_after s i (waits (wait_of s i)) (core_call (trap j registers))
  trap_after registers =
      let t : ℕ → Trapped = λ j. trap_on s.policy s.cores s.counter j registers in
      let step = trap_step s.policy s.cores s.counter i registers within places in
      by_core (λ j. (t j).cores) (λ b j. cond (b && is_forwarded (t j).result.answer) true (waits (wait_of s i)))
      (rw (ap (λ (x : TrapStep). x.core) step, ap (λ (x : TrapStep). x.result) step)
      (trap_waits (regions_held s.policy) (core_of s.cores i) s.counter registers))
      (λ j h. ap (λ (c : Core). waits c.wait) (trap_others s.policy s.cores s.counter j registers i h))

  reply-after : (result : HvcReply) (j : ℕ)
      → waits (wait_of (call s (core_call (reply j result))).state i)
      ≡ outstanding_after s i (waits (wait_of s i)) (core_call (reply j result))
  unfolding reply_on
  reply-after result =
      let step : Core → CoreStep = λ core. reply_core core result in
      let own = core_step s.cores i step within places in
      by_core (λ j. (on_core s.cores j step).cores)
      (λ b j. cond (b && eqb (core_number (on_core s.cores j step).answer) 0) false (waits (wait_of s i)))
      (rw (ap (λ (x : CoreStep). x.core) own, ap (λ (x : CoreStep). x.answer) own) (reply-done (core_of s.cores i) result).wait_ends)
      (λ j h. ap (λ (c : Core). waits c.wait) (core_others s.cores j step i h))

  save_after : (x : List ℕ) (elr spsr j : ℕ) → waits (wait_of (call s (core_call (save j x elr spsr))).state i) ≡ waits (wait_of s i)
  unfolding save_on
  save_after x elr spsr =
      let step : Core → CoreStep = λ core. save_core core x elr spsr in
      by_core (λ j. (on_core s.cores j step).cores) (λ b j. waits (wait_of s i))
      (rw (ap (λ (x : CoreStep). x.core) (core_step s.cores i step within places), save_wait (core_of s.cores i) x elr spsr))
      (λ j h. ap (λ (c : Core). waits c.wait) (core_others s.cores j step i h))

  write_after : (form : GprForm) (index value j : ℕ)
      → waits (wait_of (call s (core_call (gpr_write form j index value))).state i) ≡ waits (wait_of s i)
  write_after form index value =
      let written : ℕ → Core = λ j. (write_gpr (core_of s.cores j) index value).core in
      by_core (λ j. set s.cores j (written j)) (λ b j. waits (wait_of s i))
      (rw (get_or-set_same s.cores i (written i) fresh_core (omega arith), write_wait (core_of s.cores i) index value))
      (λ j h. ap (λ (c : Core). waits c.wait) (get_or-set_other s.cores j i (written j) fresh_core h))

  waits-after : (c : HostCall) → waits (wait_of (call s c).state i) ≡ outstanding_after s i (waits (wait_of s i)) c
  waits-after (change c) = refl
  waits-after (release_of base size) = refl
  waits-after (core_call (save core x elr spsr)) = save_after x elr spsr core
  waits-after (core_call (trap core registers)) = trap_after registers core
  waits-after (core_call (reply core result)) = reply-after result core
  waits-after (core_call (gpr_write form core index value)) = write_after form index value core
  waits-after (core_call (insert key value)) = refl
  waits-after (core_call (get key)) = refl
  waits-after (core_call (remove key)) = refl

-- every call keeps the number of cores
pub call_places : (s : State) (c : HostCall) → length (call s c).state.cores ≡ length s.cores
unfolding save_on reply_on
call_places s (change c) = refl
call_places s (release_of base size) = refl
call_places s (core_call (save core x elr spsr)) = core_places s.cores core _
call_places s (core_call (trap core registers)) = trap_places s.policy s.cores s.counter core registers
call_places s (core_call (reply core result)) = core_places s.cores core _
call_places s (core_call (gpr_write form core index value)) = length-set s.cores core _
call_places s (core_call (insert key value)) = refl
call_places s (core_call (get key)) = refl
call_places s (core_call (remove key)) = refl

waits_all : (s : State) (i : ℕ) → i ≤ 7 → length s.cores ≡ 8 → (calls : List HostCall)
    → waits (wait_of (call_all s calls) i) ≡ outstanding s i (waits (wait_of s i)) calls
waits_all s i h n [] = refl
waits_all s i h n (c ∷ cs) = rw (← waits-after s i h n c) (waits_all (call s c).state i h (call_places s c ∙ n) cs)

fresh_idle : (n i : ℕ) → (core_of (replicate n fresh_core) i).wait ≡ None
unfolding fresh_core
fresh_idle zero i = refl
fresh_idle (suc n) zero = refl
fresh_idle (suc n) (suc i) = fresh_idle n i

-- From fresh, a core waits exactly where a call of its own was forwarded and has had no reply.
pub wait_outstanding : (calls : List HostCall) (i : ℕ) → i ≤ 7
    → waits (wait_of (call_all fresh_state calls) i) ≡ outstanding fresh_state i false calls
unfolding fresh_state fresh_cores
wait_outstanding calls i h =
    waits_all fresh_state i h refl calls
    ∙ ap (λ (b : Bool). outstanding fresh_state i b calls) (ap waits (fresh_idle 8 i))

-- a core that does not wait has nothing to wait for
pub idle_nothing : (w : Wait) → waits w ≡ false → w ≡ None
idle_nothing None h = refl
idle_nothing (Some (conduit, recipient)) h = absurd (true≢false h)
