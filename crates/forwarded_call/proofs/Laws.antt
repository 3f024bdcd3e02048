-- Laws on forwarded calls and their replies. Assumes nothing.
use Prim.Native.Nat.{ℕ, ◌<◌, ◌≤◌}
use mathlib.Core.Path.{◌≡◌, refl, ap, ◌∙◌}
use mathlib.Core.Bool.{Bool, true, false, not, cond, ◌&&◌, ◌||◌}
use mathlib.Core.List.{List, [], ◌∷◌}
use native.Mathlib.Omega.{arith}
use borrow.Author.Tests.{le-leb, lt-leb}
use lib.Dec.{eqb, ltb}
use lib.IntN.{ℤ}
use lib.ListN.{get_or}
use Rattle.lists.proofs.Laws.{cond_map, cond_all}
use Rattle.lists.proofs.Every.{Every}
use Rattle.exceptions.specs.declared.Core.{Core}
use Rattle.exceptions.specs.declared.Conduit.{Conduit}
use Rattle.exceptions.specs.declared.Recipient.{Recipient}
use Rattle.exceptions.specs.declared.Recipient.TheVariants.{Firmware, Platform}
use Rattle.exceptions.specs.Registers.{Wait}
use Rattle.exceptions.proofs.InWords.{InWords, next_fits}
use Rattle.exceptions.specs.declared.Conduit.TheVariants.{Hvc, Smc}
use Rattle.core_answers.specs.declared.CoreStep.{CoreStep}
use Rattle.core_answers.specs.Answers.{core_number, trap_number, is_forwarded}
use Rattle.core_answers.proofs.Laws.{error_not_zero}
use Rattle.hvc_response.specs.Response.{result_of_kind, result_kind_number, signed_word}
use Rattle.hvc_response.proofs.Laws.{kind_number_lem, KindFits, kind_fits, in_response}
use Rattle.forwarded_call.specs.declared.HvcReply.{HvcReply}
use Rattle.forwarded_call.specs.ForwardedCall.{between, forward_call, waits, waits_for_firmware, registers_for, may_reply, taken_by, decide_reply, resumed, replied_by, reply_core, with_wait}
use Rattle.bits.specs.Bits.{FitsWord}
use Rattle.std.specs.Prelude.{Err, None, Ok, Result, Some}
use Rattle.core_answers.specs.declared.CoreError.{CoreError}
use Rattle.hvc_response.specs.declared.HvcResult.{HvcResult}

-- A number lies between two others, or below the one, or above the other.
module _ (low high n : ℕ) where
  pub inside : low ≤ n → n ≤ high → between low high n ≡ true
  inside h k = rw (le-leb low n h, le-leb n high k)

  pub below : n < low → between low high n ≡ false
  below h = rw (lt-leb low n h)

  pub above : low ≤ high → high < n → between low high n ≡ false
  above h k = rw (le-leb low n (omega arith), lt-leb n high k)

-- no more registers are handed out than a result has values
pub registers_fit : (r : Recipient) → registers_for r ≤ 18
registers_fit Firmware = omega arith
registers_fit Platform = omega arith

-- a call is handed out, never refused
pub forward_number : (core : Core) (conduit : Conduit) → trap_number (forward_call core conduit).result.answer ≡ 0
unfolding forward_call
forward_number core conduit = refl

-- and its core waits
pub forward_waits : (core : Core) (conduit : Conduit)
    → (is_forwarded (forward_call core conduit).result.answer ≡ true) × (waits (forward_call core conduit).core.wait ≡ true)
unfolding forward_call with_wait
forward_waits core conduit = (refl, refl)

-- a reply that the recipient may give is taken unless its kind is above 4
taken-number : (conduit : Conduit) (core : Core) (values : List ℕ) (kind value : ℕ) (error : ℤ)
    → core_number (replied_by (taken_by conduit (result_of_kind kind value error)) core values).answer ≡ cond (ltb 4 kind) 15 0
taken-number conduit core values kind value error = go (result_of_kind kind value error) ∙ kind_number_lem kind value error
  where
    go : (r : Result HvcResult CoreError) → core_number (replied_by (taken_by conduit r) core values).answer ≡ result_kind_number r
    go (Ok result) = refl
    go (Err e) = refl

-- 15 where the kind is not the recipient's, or above 4
either_refuses : (may above : Bool) → ◌≡◌ {A = ℕ} (cond may (cond above 15 0) 15) (cond (above || not may) 15 0)
either_refuses true true = refl
either_refuses true false = refl
either_refuses false true = refl
either_refuses false false = refl

-- What a reply does to its core: refused, nothing; accepted, the wait ends.
pub record ReplyDone (core : Core) (r : CoreStep) : Type 0 where
  pub refused_keeps : (core_number r.answer ≡ 0 → ⊥) → r.core ≡ core
  pub wait_ends : waits r.core.wait ≡ cond (eqb (core_number r.answer) 0) false (waits core.wait)

decided_done : (decision : Result (HvcResult × Conduit) CoreError) (core : Core) (values : List ℕ) → ReplyDone core (replied_by decision core values)
unfolding resumed
decided_done (Ok (result, conduit)) core values = record { refused_keeps = λ h. absurd (h refl); wait_ends = refl }
decided_done (Err error) core values = record { refused_keeps = λ h. refl; wait_ends = rw (error_not_zero error) }

module _ (core : Core) (reply : HvcReply) where
  abbrev number : Result (HvcResult × Conduit) CoreError → ℕ
  number decision = core_number (replied_by decision core reply.values).answer

  decided_number : (wait : Wait)
      → number (decide_reply wait reply.kind (get_or reply.values 0 0) reply.error)
      ≡ cond (not (waits wait)) 14
      (cond (ltb 4 reply.kind || (waits_for_firmware wait && not (eqb reply.kind 1 || eqb reply.kind 4))) 15 0)
  unfolding decide_reply may_reply
  decided_number None = refl
  decided_number (Some (conduit, Firmware)) =
      let may = eqb reply.kind 1 || eqb reply.kind 4 in
      cond_map number may _ _
      ∙ ap (λ (n : ℕ). cond may n 15) (taken-number conduit core reply.values reply.kind _ reply.error)
      ∙ either_refuses may (ltb 4 reply.kind)
  decided_number (Some (conduit, Platform)) =
      taken-number conduit core reply.values reply.kind _ reply.error ∙ either_refuses true (ltb 4 reply.kind)

  -- "14, 15", first met wins
  pub reply_core-number : core_number (reply_core core reply).answer
      ≡ cond (not (waits core.wait)) 14
      (cond (ltb 4 reply.kind || (waits_for_firmware core.wait && not (eqb reply.kind 1 || eqb reply.kind 4))) 15 0)
  unfolding reply_core
  reply_core-number = decided_number core.wait

  pub reply-done : ReplyDone core (reply_core core reply)
  unfolding reply_core
  reply-done = decided_done (decide_reply core.wait reply.kind (get_or reply.values 0 0) reply.error) core reply.values

-- A core whose numbers fit words has them fit when it waits, when it goes on, and after a reply whose numbers fit.
module _ (c : Core) (h : InWords c) where
  pub in_wait : (w : Wait) → InWords (with_wait c w)
  unfolding with_wait
  in_wait w = record { registers = h.registers; x_fits = h.x_fits; rest_fits = h.rest_fits }

  pub in_forwarded : (conduit : Conduit) → InWords (forward_call c conduit).core
  unfolding forward_call
  in_forwarded conduit = in_wait _

  in_resumed : (conduit : Conduit) → InWords (resumed conduit c)
  unfolding resumed
  in_resumed Hvc = record { registers = h.registers; x_fits = h.x_fits; rest_fits = h.rest_fits }
  in_resumed Smc = record { registers = h.registers; x_fits = h.x_fits; rest_fits = (next_fits c.elr, h.rest_fits.1) }

-- the first of some numbers, and 0 where there is none
first_fits : (values : List ℕ) → Every FitsWord values → FitsWord (get_or values 0 0)
first_fits [] h = omega arith
first_fits (v ∷ vs) h = h.0

pub in_replied : (c : Core) → InWords c → (r : HvcReply) → Every FitsWord r.values → FitsWord (signed_word r.error) → InWords (reply_core c r).core
unfolding reply_core decide_reply
in_replied c h r fits f = by_wait c.wait
  where
    In : Result (HvcResult × Conduit) CoreError → Type 0
    In decision = InWords (replied_by decision c r.values).core

    by_kind : (conduit : Conduit) (kind : Result HvcResult CoreError) → KindFits kind → In (taken_by conduit kind)
    by_kind conduit (Ok result) k = in_resumed _ (in_response c h result r.values k fits) conduit
    by_kind conduit (Err error) k = h

    value : ℕ
    value = get_or r.values 0 0

    by_wait : (w : Wait) → In (decide_reply w r.kind value r.error)
    by_wait None = h
    by_wait (Some (conduit, recipient)) =
        cond_all In (may_reply recipient r.kind) _ _
        (by_kind conduit (result_of_kind r.kind value r.error) (kind_fits r.kind value r.error (first_fits r.values fits) f))
        h
