-- The host's calls as one, over the whole state. Assumes nothing.
use Rattle.std.specs.Prelude.{ℕ, ◌≡◌, Bool, true, false, ◌&&◌, cond, eqb, set, Option, Result, ⊤}
use mathlib.Core.List.{List, [], ◌∷◌, foldl, Memᴰ}
use Rattle.stage2_range.specs.Ranges.{result_number}
use Rattle.stage2.specs.declared.Policy.{Policy}
use Rattle.stage2.specs.Policy.{fresh_policy, release_range}
use Rattle.memory_import.specs.Changes as changes
use Rattle.simple_map.specs.declared.SimpleMap.{SimpleMap}
use Rattle.simple_map.specs.declared.SuspendCoreData.{SuspendCoreData}
use Rattle.simple_map.specs.Map.{empty_map, get_item, remove_item, insert_item, insert_number, lookup_values}
use Rattle.exceptions.specs.declared.Core.{Core}
use Rattle.exceptions.specs.Registers.{Wait}
use Rattle.exceptions.specs.Registers.{write_gpr, write_number, core_of}
use Rattle.data_abort.specs.declared.TrapRegisters.{TrapRegisters}
use Rattle.forwarded_call.specs.declared.HvcReply.{HvcReply}
use Rattle.core_answers.specs.declared.TrapResult.{TrapResult}
use Rattle.core_answers.specs.Answers.{core_number, trap_number, result_words, is_forwarded}
use Rattle.hypervisor.specs.Cores.{fresh_cores, save_on, reply_on, trap_on}
use Rattle.core_answers.specs.declared.CoreError.{CoreError}
use Rattle.exceptions.specs.declared.GuestRegisterWriteError.{GuestRegisterWriteError}
use Rattle.simple_map.specs.declared.CapacityExceeded.{CapacityExceeded}
use Rattle.stage2_range.specs.declared.Stage2ConfigError.{Stage2ConfigError}

-- the state that calls are given and hand back
pub record State : Type 0 where
  pub policy : Policy
  pub cores : List Core
  pub counter : ℕ
  pub map : SimpleMap

-- "Fresh means no range, no region, no parked entry, the counter 0 and fresh cores"
unfoldable pub fresh_state : State
fresh_state = record { policy = fresh_policy; cores = fresh_cores; counter = 0; map = empty_map }

-- the two forms of `write_gpr`, "by value or lent": the contracts of both cite one definition
pub data GprForm : Type 0 where
  by_value : GprForm
  lent : GprForm

-- "Core steps are save, trap and reply with any core number; `write_gpr`, by value or lent, on a record of the eight, which is put back;
-- insert, look-up and remove"
pub data CoreCall : Type 0 where
  save : (core : ℕ) (x : List ℕ) (elr spsr : ℕ) → CoreCall
  trap : (core : ℕ) (registers : TrapRegisters) → CoreCall
  reply : (core : ℕ) (result : HvcReply) → CoreCall
  gpr_write : (form : GprForm) (core index value : ℕ) → CoreCall
  insert : (key : ℕ) (value : SuspendCoreData) → CoreCall
  get : (key : ℕ) → CoreCall
  remove : (key : ℕ) → CoreCall

-- the calls of the host: a call that changes the policy, or a core step; and the release of a range (document 02, "Ask 5")
pub data HostCall : Type 0 where
  change : (call : changes.PolicyCall) → HostCall
  core_call : (call : CoreCall) → HostCall
  release_of : (base size : ℕ) → HostCall

-- what a call answers, with every result field beside the state
pub data Answer : Type 0 where
  changed : Result ⊤ Stage2ConfigError → Answer
  stepped : Result ⊤ CoreError → Answer
  trapped : TrapResult → Answer
  written : Result ⊤ GuestRegisterWriteError → Answer
  inserted : Result ⊤ CapacityExceeded → Answer
  looked_up : Option SuspendCoreData → Answer

-- its number in document 01's table: 0 where it is no refusal
abbrev pub answer_number : Answer → ℕ
answer_number (changed answer) = result_number answer
answer_number (stepped answer) = core_number answer
answer_number (trapped result) = trap_number result.answer
answer_number (written answer) = write_number answer
answer_number (inserted answer) = insert_number answer
answer_number (looked_up answer) = 0

-- its other result fields: a trap's kind, values and hint, what a look-up or a remove found
abbrev pub answer_values : Answer → List ℕ
answer_values (changed answer) = []
answer_values (stepped answer) = []
answer_values (trapped result) = result_words result
answer_values (written answer) = []
answer_values (inserted answer) = []
answer_values (looked_up answer) = lookup_values answer

-- "A refusal returns its number with every other result field 0"
abbrev pub AllZero : List ℕ → Type 0
AllZero values = (v : ℕ) → Memᴰ v values → v ≡ 0

-- what a call comes to: its answer, and the state handed back
pub record Called : Type 0 where
  pub answer : Answer
  pub state : State

-- a part of the state replaced
abbrev pub with_policy : State → Policy → State
with_policy s policy = record { policy = policy; cores = s.cores; counter = s.counter; map = s.map }

abbrev pub with_cores : State → List Core → State
with_cores s cores = record { policy = s.policy; cores = cores; counter = s.counter; map = s.map }

abbrev pub with_map : State → SimpleMap → State
with_map s map = record { policy = s.policy; cores = s.cores; counter = s.counter; map = map }

-- a core step, by the definitions that the contracts cite
abbrev pub core_called : State → CoreCall → Called
core_called s (save core x elr spsr) =
    let r = save_on s.cores core x elr spsr in
    record { answer = stepped r.answer; state = with_cores s r.cores }
core_called s (trap core registers) =
    let t = trap_on s.policy s.cores s.counter core registers in
    record {
      answer = trapped t.result;
      state = record { policy = t.policy; cores = t.cores; counter = t.counter; map = s.map };
    }
core_called s (reply core result) =
    let r = reply_on s.cores core result in
    record { answer = stepped r.answer; state = with_cores s r.cores }
core_called s (gpr_write form core index value) =
    let w = write_gpr (core_of s.cores core) index value in
    record { answer = written w.answer; state = with_cores s (set s.cores core w.core) }
core_called s (insert key value) =
    let i = insert_item s.map key value in
    record { answer = inserted i.answer; state = with_map s i.map }
core_called s (get key) = record { answer = looked_up (get_item s.map key); state = s }
core_called s (remove key) =
    let r = remove_item s.map key in
    record { answer = looked_up r.removed; state = with_map s r.map }

-- a call, by the same
abbrev pub call : State → HostCall → Called
call s (change c) =
    let b = changes.change s.policy c in
    record { answer = changed b.answer; state = with_policy s b.policy }
call s (core_call c) = core_called s c
call s (release_of base size) =
    let b = release_range s.policy base size in
    record { answer = changed b.answer; state = with_policy s b.policy }

-- the state after a list of calls that change the policy
abbrev pub after_changes : State → List changes.PolicyCall → State
after_changes s calls = with_policy s (changes.change_all s.policy calls)

-- the state after a list of core steps: "Each call gets the state that the last one handed back"
abbrev pub after_steps : State → List CoreCall → State
after_steps s steps = foldl (λ t c. (core_called t c).state) s steps

-- the answers of a run to the steps that fit, in order
abbrev pub answers_in : {S C A : Type 0} → (S → C → A) → (S → C → S) → (C → Bool) → S → List C → List A
answers_in answer next fits s [] = []
answers_in answer next fits s (c ∷ cs) =
    cond (fits c) (answer s c ∷ answers_in answer next fits (next s c) cs) (answers_in answer next fits (next s c) cs)

abbrev pub answers_to : (CoreCall → Bool) → State → List CoreCall → List Answer
answers_to fits s steps = answers_in (λ t c. (core_called t c).answer) (λ t c. (core_called t c).state) fits s steps

-- the state after a list of calls
abbrev pub call_all : State → List HostCall → State
call_all s [] = s
call_all s (c ∷ cs) = call_all (call s c).state cs

-- all answers of a run, in order
abbrev pub call_answers : State → List HostCall → List Answer
call_answers s calls = answers_in (λ t c. (call t c).answer) (λ t c. (call t c).state) (λ c. true) s calls

-- a call is refused: its answer has another number than 0
abbrev pub IsRefused : State → HostCall → Type 0
IsRefused s c = answer_number (call s c).answer ≡ 0 → ⊥

-- what a core waits for
abbrev pub wait_of : State → ℕ → Wait
wait_of s i = (core_of s.cores i).wait

-- whether core `i` is between a forwarded call (document 01: a hand-out) and its reply, after one more call
abbrev pub outstanding_after : State → ℕ → Bool → HostCall → Bool
outstanding_after s i before (change c) = before
outstanding_after s i before (release_of base size) = before
outstanding_after s i before (core_call (save core x elr spsr)) = before
outstanding_after s i before (core_call (trap core registers)) =
    cond (eqb core i && is_forwarded (trap_on s.policy s.cores s.counter core registers).result.answer) true before
outstanding_after s i before (core_call (reply core result)) =
    cond (eqb core i && eqb (core_number (reply_on s.cores core result).answer) 0) false before
outstanding_after s i before (core_call (gpr_write form core index value)) = before
outstanding_after s i before (core_call (insert key value)) = before
outstanding_after s i before (core_call (get key)) = before
outstanding_after s i before (core_call (remove key)) = before

-- the same after a list of calls
abbrev pub outstanding : State → ℕ → Bool → List HostCall → Bool
outstanding s i before [] = before
outstanding s i before (c ∷ cs) = outstanding (call s c).state i (outstanding_after s i before c) cs
