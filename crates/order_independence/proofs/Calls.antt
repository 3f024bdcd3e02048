-- Laws over all of the host's calls: a refusal changes nothing and has no other result. Assumes nothing.
use mathlib.Core.Path.{◌≡◌, refl, ap}
use mathlib.Core.List.Memᴰ
use lib.Seq.{set-get_or}
use Rattle.memory_import.specs.Changes.{add, release}
use Rattle.memory_import.proofs.Changes.{change_by-refused}
use Rattle.simple_map.proofs.Laws.{insert_refused}
use Rattle.exceptions.specs.Registers.{fresh_core, core_of}
use Rattle.exceptions.proofs.Laws.{write_refused}
use Rattle.core_answers.proofs.Laws.{refused_zero}
use Rattle.hypervisor.specs.declared.Trapped.{Trapped}
use Rattle.hypervisor.proofs.Kept.{save_refused, reply-refused, trap_refused}
use Rattle.order_independence.specs.Calls.{State, HostCall, change, core_call, release_of, save, trap, reply, gpr_write, insert, get, remove, trapped, answer_values, AllZero, with_policy, with_cores, with_map, call, IsRefused}

-- "A refusal returns its number .., and all state is as before"
pub refusal_keeps : (s : State) (c : HostCall) → IsRefused s c → (call s c).state ≡ s
refusal_keeps s (change c) h = ap (with_policy s) (change_by-refused s.policy (add c) h)
refusal_keeps s (release_of base size) h = ap (with_policy s) (change_by-refused s.policy (release base size) h)
refusal_keeps s (core_call (save core x elr spsr)) h = ap (with_cores s) (save_refused s.cores core x elr spsr h)
refusal_keeps s (core_call (trap core registers)) h =
    ap (λ (t : Trapped). record { policy = t.policy; cores = t.cores; counter = t.counter; map = s.map })
    (trap_refused s.policy s.cores s.counter core registers h).1
refusal_keeps s (core_call (reply core result)) h = ap (with_cores s) (reply-refused s.cores core result h)
refusal_keeps s (core_call (gpr_write form core index value)) h =
    ap (with_cores s) (rw (write_refused (core_of s.cores core) index value h) (set-get_or s.cores core fresh_core))
refusal_keeps s (core_call (insert key value)) h = ap (with_map s) (insert_refused s.map key value h)
refusal_keeps s (core_call (get key)) h = refl
refusal_keeps s (core_call (remove key)) h = absurd (h refl)

-- "A refusal returns its number with every other result field 0"
pub refusal_zero : (s : State) (c : HostCall) → IsRefused s c → AllZero (answer_values (call s c).answer)
refusal_zero s (change c) h v m = absurd (Memᴰ.not-nil m)
refusal_zero s (release_of base size) h v m = absurd (Memᴰ.not-nil m)
refusal_zero s (core_call (save core x elr spsr)) h v m = absurd (Memᴰ.not-nil m)
refusal_zero s (core_call (trap core registers)) h v m =
    let kept = trap_refused s.policy s.cores s.counter core registers h in
    refused_zero kept.0 v (rw (ap (λ (t : Trapped). answer_values (trapped t.result)) kept.1) at m)
refusal_zero s (core_call (reply core result)) h v m = absurd (Memᴰ.not-nil m)
refusal_zero s (core_call (gpr_write form core index value)) h v m = absurd (Memᴰ.not-nil m)
refusal_zero s (core_call (insert key value)) h v m = absurd (Memᴰ.not-nil m)
refusal_zero s (core_call (get key)) h v m = absurd (h refl)
refusal_zero s (core_call (remove key)) h v m = absurd (h refl)
