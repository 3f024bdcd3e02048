-- A pair of runs, computed: two mixings of the steps of three cores end the same. A trap that reads another core, a faulted load that
-- counts, a remove that clears every entry and a write to another core each make them differ. The hint of a call is among the answers that
-- are compared. Then runs with a release. Assumes nothing.
use Prim.Native.Nat.{ℕ, ◌+◌}
use mathlib.Core.Path.{◌≡◌, refl}
use mathlib.Core.List.{List, [], ◌∷◌, map}
use lib.ListN.{get_or, replicate}
use Rattle.stage2_range.specs.Registry.{region_of}
use Rattle.stage2.specs.Policy.{regions_held}
use Rattle.stage2.specs.Builds.{allow, handle}
use Rattle.memory_import.specs.Changes.{builder, add, release}
use Rattle.simple_map.specs.declared.SuspendCoreData.{SuspendCoreData}
use Rattle.simple_map.specs.Map.{get_item}
use Rattle.data_abort.specs.declared.TrapRegisters.{TrapRegisters}
use Rattle.core_answers.specs.Answers.{forwarded_length}
use Rattle.simple_map.proofs.Opened as simple-map
use Rattle.hypervisor.proofs.Opened as hypervisor
use Rattle.order_independence.specs.Calls.{fresh_state, lent, CoreCall, save, trap, gpr_write, insert, get, remove, HostCall, Answer, answer_number, answer_values, after_steps, answers_to, call_all, call_answers}
use Rattle.order_independence.specs.Steps.{is_own}
use Rattle.order_independence.specs.StillHeld.{still_held}
use Rattle.order_independence.specs.Phases.{adding, releasing}
use Rattle.order_independence.specs.AnyCalls.{phase, phases_of, struck_calls}
use Rattle.order_independence.proofs.Needed.{page, load, plug, pull, load_on_0}

-- a load of 32 bits at 16, which faults; a call by HVC
abbrev narrow : TrapRegisters
narrow = record { esr = 0x93858000; fipa = record { 0 = 0xF000 }; far = 0x10; vbar = 0x80000 }

abbrev pub hvc : TrapRegisters
hvc = record { esr = 0x5A000000; fipa = record { 0 = 0 }; far = 0; vbar = 0 }

abbrev entry : ℕ → SuspendCoreData
entry n = record { entry_point = n; context_id = n }

abbrev key : ℕ → ℕ
key i = 100 + i

-- core 0 is saved and loads the counter word, core 1 is saved and calls with the SVE hint, core 2 faults; cores 0 and 1 have an entry, and
-- core 0 removes its own
abbrev pub first : List CoreCall
first =
    save 0 (replicate 31 7) 8 9
    ∷ save 1 (replicate 31 0x84010000) 8 9
    ∷ trap 1 hvc
    ∷ trap 2 narrow
    ∷ insert 101 (entry 1)
    ∷ insert 100 (entry 0)
    ∷ trap 0 load
    ∷ remove 100
    ∷ gpr_write lent 0 6 1
    ∷ gpr_write lent 2 6 2
    ∷ get 101
    ∷ []

-- the same steps, each core's own in its own order
abbrev pub second : List CoreCall
second =
    save 1 (replicate 31 0x84010000) 8 9
    ∷ trap 1 hvc
    ∷ save 0 (replicate 31 7) 8 9
    ∷ insert 100 (entry 0)
    ∷ trap 0 load
    ∷ remove 100
    ∷ insert 101 (entry 1)
    ∷ trap 2 narrow
    ∷ gpr_write lent 2 6 2
    ∷ get 101
    ∷ gpr_write lent 0 6 1
    ∷ []

-- what core `i` answers in a run
abbrev said : ℕ → List CoreCall → List Answer
said i steps = answers_to (is_own key i) page steps

-- the hint in each answer of core `i`: the last result field of a trap
abbrev hints : ℕ → List CoreCall → List ℕ
hints i steps = map (λ a. get_or (answer_values a) (1 + forwarded_length) 0) (said i steps)

pub computed : ((after_steps page first).cores ≡ (after_steps page second).cores)
    × ((after_steps page first).counter ≡ 1)
    × ((after_steps page second).counter ≡ 1)
    × (get_item (after_steps page first).map 101 ≡ get_item (after_steps page second).map 101)
    × (said 0 first ≡ said 0 second)
    × (said 1 first ≡ said 1 second)
    × (said 2 first ≡ said 2 second)
    × (hints 1 first ≡ 0 ∷ 1 ∷ 0 ∷ 0 ∷ [])
unfolding hypervisor.opened simple-map.opened fresh_state
computed = (refl, refl, refl, refl, refl, refl, refl, refl)

-- A rehearsal, computed: a load with no module, the module plugged in, a load, the module pulled out, a load, another release, the module plugged in
-- again, and once more, which is refused, and a load.
abbrev rehearsal : List HostCall
rehearsal = load_on_0 ∷ plug ∷ load_on_0 ∷ pull ∷ load_on_0 ∷ pull ∷ plug ∷ plug ∷ load_on_0 ∷ []

pub rehearsed : (map answer_number (call_answers fresh_state rehearsal) ≡ 13 ∷ 0 ∷ 0 ∷ 0 ∷ 13 ∷ 23 ∷ 0 ∷ 9 ∷ 0 ∷ [])
    × ((call_all fresh_state rehearsal).counter ≡ 2)
    × (regions_held (call_all fresh_state rehearsal).policy ≡ region_of 0x0F000000 4096 1 1 ∷ [])
unfolding hypervisor.opened simple-map.opened fresh_state
rehearsed = (refl, refl, refl)

-- its phases, without the calls that are refused
pub rehearsed_phases : phases_of (struck_calls fresh_state rehearsal)
    ≡ phase (adding []) (trap 0 load ∷ [])
    ∷ phase (adding (builder (handle 0x0F000000 4096 1 1) ∷ [])) (trap 0 load ∷ [])
    ∷ phase (releasing 0x0F000000 4096) (trap 0 load ∷ [])
    ∷ phase (adding (builder (handle 0x0F000000 4096 1 1) ∷ [])) (trap 0 load ∷ [])
    ∷ []
unfolding hypervisor.opened simple-map.opened fresh_state
rehearsed_phases = refl

-- What is still held, in order of arrival: a range that came again stands last, a release by another size takes nothing away, and a refused call
-- adds nothing.
pub held_last : still_held
    (add (builder (allow 4096 4096 1))
    ∷ add (builder (handle 8192 4096 1 0))
    ∷ add (builder (allow 8192 8192 2))
    ∷ add (builder (allow 16384 4096 3))
    ∷ release 4096 8192
    ∷ release 4096 4096
    ∷ add (builder (allow 4096 4096 4))
    ∷ [])
    ≡ handle 8192 4096 1 0 ∷ allow 16384 4096 3 ∷ allow 4096 4096 4 ∷ []
unfolding hypervisor.opened
held_last = refl
