-- Why the claim asks what it asks: runs that end differently where one of its hypotheses does not hold, by computation. Assumes nothing.
use Prim.Native.Nat.{ℕ}
use mathlib.Core.Path.{◌≡◌, refl, sym, ap}
use mathlib.Core.List.{List, [], ◌∷◌, map}
use native.Mathlib.Omega.{arith}
use lib.ListN.{length, get_or}
use Rattle.stage2.specs.Builds.{allow, handle}
use Rattle.memory_import.specs.Changes.{builder}
use Rattle.simple_map.specs.declared.SuspendCoreData.{SuspendCoreData}
use Rattle.simple_map.specs.Map.{get_item, lookup_values, capacity_exceeded}
use Rattle.exceptions.specs.Registers.{core_of}
use Rattle.data_abort.specs.declared.TrapRegisters.{TrapRegisters}
use Rattle.simple_map.proofs.Opened as simple-map
use Rattle.hypervisor.proofs.Opened as hypervisor
use Rattle.order_independence.specs.Calls.{State, fresh_state, by_value, CoreCall, trap, gpr_write, insert, HostCall, change, core_call, release_of, Answer, inserted, after_changes, after_steps, answers_to, call_all}
use Rattle.order_independence.specs.Steps.{is_own}
use Rattle.order_independence.specs.OrderIndependence.{Same}
use Rattle.order_independence.specs.Phases.{Phase, adding, releasing, answers_over}
use Rattle.order_independence.specs.AnyCalls.{phase}
use Rattle.std.specs.Prelude.{Err, Ok}

-- a state with the filtered MMIO page, and a 64-bit load of its word at 16 into x5
abbrev pub page : State
page = after_changes fresh_state (builder (handle 0x0F000000 4096 1 1) ∷ [])

abbrev pub load : TrapRegisters
load = record { esr = 0x93C58000; fipa = record { 0 = 0xF000 }; far = 0x10; vbar = 0 }

-- Two cores that both load the counter word: the first finds 0, the second 1.
pub two_loaders : (key : ℕ → ℕ)
    → Same key (after_steps page (trap 0 load ∷ trap 1 load ∷ [])) (after_steps page (trap 1 load ∷ trap 0 load ∷ [])) → ⊥
unfolding hypervisor.opened fresh_state
two_loaders key same =
    let e : ◌≡◌ {A = ℕ} 0 1 = ap (λ cores. get_or (core_of cores 0).x 5 9) same.all_cores in
    omega arith

-- One core's own steps in another order: the last write stays.
pub own_steps_swapped : (key : ℕ → ℕ)
    → Same key (after_steps fresh_state (gpr_write by_value 0 5 1 ∷ gpr_write by_value 0 5 2 ∷ []))
    (after_steps fresh_state (gpr_write by_value 0 5 2 ∷ gpr_write by_value 0 5 1 ∷ [])) → ⊥
unfolding hypervisor.opened fresh_state
own_steps_swapped key same =
    let e : ◌≡◌ {A = ℕ} 2 1 = ap (λ cores. get_or (core_of cores 0).x 5 9) same.all_cores in
    omega arith

-- Two cores with one key: what either finds is what was inserted last. (Steps that name one key are one core's own, and keep their order.)
pub one_key : (first second : SuspendCoreData) → (first.entry_point ≡ second.entry_point → ⊥)
    → get_item (after_steps fresh_state (insert 7 first ∷ insert 7 second ∷ [])).map 7
    ≡ get_item (after_steps fresh_state (insert 7 second ∷ insert 7 first ∷ [])).map 7 → ⊥
unfolding simple-map.opened fresh_state
one_key first second differ same = differ (ap (λ l. get_or (lookup_values l) 1 0) (sym same))

-- A key that is no core's: the ninth of nine keys is refused, whichever it is.
abbrev pub inserts : List ℕ → List CoreCall
inserts keys = map (λ k. insert k (record { entry_point = 0; context_id = 0 })) keys

-- what the insert under key 8 answers
abbrev pub key_8 : List CoreCall → List Answer
key_8 steps = answers_to (is_own (λ i. i) 8) fresh_state steps

pub ninth_key : (key_8 (inserts (0 ∷ 1 ∷ 2 ∷ 3 ∷ 4 ∷ 5 ∷ 6 ∷ 7 ∷ 8 ∷ [])) ≡ inserted (Err capacity_exceeded) ∷ [])
    × (key_8 (inserts (8 ∷ 0 ∷ 1 ∷ 2 ∷ 3 ∷ 4 ∷ 5 ∷ 6 ∷ 7 ∷ [])) ≡ inserted (Ok tt) ∷ [])
unfolding simple-map.opened fresh_state
ninth_key = (refl, refl)

-- In phases: a module's allow call or handle call, its release, and a load of the filtered page's counter word.
abbrev pub plug : HostCall
plug = change (builder (handle 0x0F000000 4096 1 1))

abbrev pub pull : HostCall
pull = release_of 0x0F000000 4096

abbrev pub load_on_0 : HostCall
load_on_0 = core_call (trap 0 load)

abbrev ram : HostCall
ram = change (builder (allow 0x0F000000 4096 7))

-- A release and an allow of the range that it frees may not change places: the range is held at the end, or it is not. (Two releases may:
-- `releases_commute`, crates/stage2/proofs/Commute.antt.)
pub release_and_allow : (key : ℕ → ℕ) → Same key (call_all page (pull ∷ ram ∷ [])) (call_all page (ram ∷ pull ∷ [])) → ⊥
unfolding hypervisor.opened fresh_state
release_and_allow key same =
    let e : ◌≡◌ {A = ℕ} 1 0 = ap length same.policies.allowed in
    omega arith

-- A core step may not cross a release: its region is gone, and it is refused with 13.
pub step_over_release : (key : ℕ → ℕ) → Same key (call_all page (load_on_0 ∷ pull ∷ [])) (call_all page (pull ∷ load_on_0 ∷ [])) → ⊥
unfolding hypervisor.opened fresh_state
step_over_release key same =
    let e : ◌≡◌ {A = ℕ} 1 0 = same.counters in
    omega arith

-- One key function over the whole run: with another in a later phase there are nine keys, and the last insert of them is refused.
abbrev nine : List CoreCall → List Phase
nine last = phase (adding []) (inserts (0 ∷ 1 ∷ 2 ∷ 3 ∷ 4 ∷ 5 ∷ 6 ∷ [])) ∷ phase (releasing 0x0F000000 4096) last ∷ []

abbrev key_8_over : List Phase → List Answer
key_8_over run = answers_over (is_own (λ i. i) 8) fresh_state run

pub keys_over_phases : (key_8_over (nine (inserts (7 ∷ 8 ∷ []))) ≡ inserted (Err capacity_exceeded) ∷ [])
    × (key_8_over (nine (inserts (8 ∷ 7 ∷ []))) ≡ inserted (Ok tt) ∷ [])
unfolding simple-map.opened fresh_state
keys_over_phases = (refl, refl)
