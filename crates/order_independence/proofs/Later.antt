-- From states whose policies hold the same in place, and that are else equal, every list of calls has the same answers: a call's answer depends
-- on counts and lists held alone, a trap's on the regions held, and no other call looks at the policy. Assumes nothing.
use mathlib.Core.Path.{◌≡◌, refl, ◌∙◌, ap}
use mathlib.Core.List.{List, [], ◌∷◌}
use lib.ListN.{set}
use Rattle.stage2.specs.Policy.{fresh_policy}
use Rattle.stage2.specs.Builds.{WellFormed}
use Rattle.stage2.proofs.WellFormed.{fresh_well_formed, build_all_keeps}
use Rattle.memory_import.specs.Changes.{add, release}
use Rattle.memory_import.proofs.Changes.{change_by_keeps, changed_by_well_formed, change_by-same}
use Rattle.simple_map.specs.Map.{get_item, remove_item, insert_item}
use Rattle.exceptions.specs.Registers.{core_of, write_gpr}
use Rattle.hypervisor.specs.Cores.{save_on, reply_on, trap_on}
use Rattle.hypervisor.proofs.Steps.{trap_policy, trap_by_regions}
use Rattle.order_independence.specs.Calls.{State, CoreCall, save, trap, reply, gpr_write, insert, get, remove, HostCall, change, core_call, release_of, changed, stepped, trapped, written, inserted, looked_up, core_called, call, call_all, call_answers}
use Rattle.order_independence.specs.StillHeld.{still_held, Like, LaterSame}
use Rattle.order_independence.proofs.CoreCalls.{core_policy}
use Rattle.order_independence.proofs.StillHeld.{from_fresh}

-- a core step
core_like : (s t : State) → Like s t → (c : CoreCall)
    → ((core_called s c).answer ≡ (core_called t c).answer) × Like (core_called s c).state (core_called t c).state
core_like s t like (save core x elr spsr) =
    let r = ap (λ cores. save_on cores core x elr spsr) like.all_cores in
    ((λ j. stepped (r j).answer), record { policies = like.policies; all_cores = λ j. (r j).cores; counters = like.counters; maps = like.maps })
core_like s t like (trap core registers) =
    let r = trap_by_regions s.policy t.policy s.cores s.counter core registers like.policies.regions in
    let u : trap_on t.policy s.cores s.counter core registers ≡ trap_on t.policy t.cores t.counter core registers =
    λ j. trap_on t.policy (like.all_cores j) (like.counters j) core registers in
    let p = trap_policy s.policy s.cores s.counter core registers in
    let q = trap_policy t.policy t.cores t.counter core registers in (
      (λ j. trapped (r j).result) ∙ (λ j. trapped (u j).result),
      record {
        policies = rw (p, q) like.policies;
        all_cores = (λ j. (r j).cores) ∙ (λ j. (u j).cores);
        counters = (λ j. (r j).counter) ∙ (λ j. (u j).counter);
        maps = like.maps;
      },
    )
core_like s t like (reply core result) =
    let r = ap (λ cores. reply_on cores core result) like.all_cores in
    ((λ j. stepped (r j).answer), record { policies = like.policies; all_cores = λ j. (r j).cores; counters = like.counters; maps = like.maps })
core_like s t like (gpr_write form core index value) =
    let r = ap (λ cores. write_gpr (core_of cores core) index value) like.all_cores in (
      (λ j. written (r j).answer),
      record {
        policies = like.policies;
        all_cores = λ j. set (like.all_cores j) core (r j).core;
        counters = like.counters;
        maps = like.maps;
      },
    )
core_like s t like (insert key value) =
    let r = ap (λ map. insert_item map key value) like.maps in
    ((λ j. inserted (r j).answer), record { policies = like.policies; all_cores = like.all_cores; counters = like.counters; maps = λ j. (r j).map })
core_like s t like (get key) = (ap (λ map. looked_up (get_item map key)) like.maps, like)
core_like s t like (remove key) =
    let r = ap (λ map. remove_item map key) like.maps in
    ((λ j. looked_up (r j).removed), record { policies = like.policies; all_cores = like.all_cores; counters = like.counters; maps = λ j. (r j).map })

-- a call
call_like : (s t : State) → WellFormed s.policy → WellFormed t.policy → Like s t → (c : HostCall)
    → ((call s c).answer ≡ (call t c).answer) × Like (call s c).state (call t c).state
call_like s t w w' like (change c) =
    let r = change_by-same s.policy t.policy like.policies w w' (add c) in
    (ap changed r.0, record { policies = r.1; all_cores = like.all_cores; counters = like.counters; maps = like.maps })
call_like s t w w' like (release_of base size) =
    let r = change_by-same s.policy t.policy like.policies w w' (release base size) in
    (ap changed r.0, record { policies = r.1; all_cores = like.all_cores; counters = like.counters; maps = like.maps })
call_like s t w w' like (core_call c) = core_like s t like c

-- every call keeps the policy well formed
pub call_keeps : (s : State) (c : HostCall) → WellFormed s.policy → WellFormed (call s c).state.policy
call_keeps s (change c) w = change_by_keeps s.policy (add c) w
call_keeps s (release_of base size) w = change_by_keeps s.policy (release base size) w
call_keeps s (core_call c) w = rw (core_policy s c) w

-- Every list of calls has the same answers from both, and ends in states that are alike.
pub run_like : (cs : List HostCall) (s t : State) → WellFormed s.policy → WellFormed t.policy → Like s t
    → (call_answers s cs ≡ call_answers t cs) × Like (call_all s cs) (call_all t cs)
run_like [] s t w w' like = (refl, like)
run_like (c ∷ cs) s t w w' like =
    let h = call_like s t w w' like c in
    let r = run_like cs (call s c).state (call t c).state (call_keeps s c w) (call_keeps t c w') h.1 in
    ((λ j. h.0 j ∷ r.0 j), r.1)

-- So from fresh, of what calls left and of what those still held make afresh.
pub later_same : LaterSame
later_same cs later s =
    run_like later _ _ (changed_by_well_formed cs) (build_all_keeps fresh_policy (still_held cs) fresh_well_formed)
    (record { policies = (from_fresh cs).same_held; all_cores = refl; counters = refl; maps = refl })
