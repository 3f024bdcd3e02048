-- The ranges still held, by the calls alone, and policies built afresh from them (document 02, "Ask 5"). Assumes nothing.
use Rattle.std.specs.Prelude.{ℕ, ◌≡◌, Bool, ◌&&◌, cond, List, [], ◌∷◌, ◌++◌, eqb}
use Rattle.lists.specs.Lists.{without_first}
use Rattle.stage2_range.specs.Ranges.{result_number}
use Rattle.stage2.specs.declared.Policy.{Policy}
use Rattle.stage2.specs.Policy.{fresh_policy}
use Rattle.stage2.specs.Builds.{BuilderCall, allow, handle, build_all, SameHeld}
use Rattle.memory_import.specs.Changes.{PolicyChange, add, release, change_by, change_by_all, taken_apart, AllBuilt}
use Rattle.order_independence.specs.Calls.{State, HostCall, with_policy, call_all, call_answers}

-- a call is accepted
abbrev pub accepts_change : Policy → PolicyChange → Bool
accepts_change p c = eqb (result_number (change_by p c).answer) 0

-- a builder call asks for the range with this base and size
abbrev pub asks_for : ℕ → ℕ → BuilderCall → Bool
asks_for base size (allow b s attributes) = eqb b base && eqb s size
asks_for base size (handle b s read write) = eqb b base && eqb s size

-- builder calls, with what an accepted call does to them: one that adds stands last, taken apart; a release takes its own away
abbrev pub kept_by : List BuilderCall → PolicyChange → List BuilderCall
kept_by calls (add c) = calls ++ taken_apart c
kept_by calls (release base size) = without_first (asks_for base size) calls

-- the builder calls still held after a list of calls, of which each is made on the policy that the last one left; a refused one does nothing
abbrev pub held_from : Policy → List BuilderCall → List PolicyChange → List BuilderCall
held_from p calls [] = calls
held_from p calls (c ∷ cs) = held_from (change_by p c).policy (cond (accepts_change p c) (kept_by calls c) calls) cs

-- "the ranges still held, in their order of arrival": the builder calls accepted from fresh and not released since
abbrev pub still_held : List PolicyChange → List BuilderCall
still_held cs = held_from fresh_policy [] cs

-- a policy holds what these calls make afresh, each of them accepted
pub record BuiltAfresh (p : Policy) (calls : List BuilderCall) : Type 0 where
  pub all_accepted : AllBuilt fresh_policy calls
  pub same_held : SameHeld p (build_all fresh_policy calls)

-- "After any sequence from fresh the policy equals one built afresh from the ranges still held, in their order of arrival"
abbrev pub FromFresh : Type 0
FromFresh = (cs : List PolicyChange) → BuiltAfresh (change_by_all fresh_policy cs) (still_held cs)

-- two states whose policies hold the same in place, and that are else equal
pub record Like (s t : State) : Type 0 where
  pub policies : SameHeld s.policy t.policy
  pub all_cores : s.cores ≡ t.cores
  pub counters : s.counter ≡ t.counter
  pub maps : s.map ≡ t.map

-- so every later list of calls has the same answers from both policies, whatever the rest of the state is, and ends alike
abbrev pub LaterSame : Type 0
LaterSame = (cs : List PolicyChange) (later : List HostCall) (s : State)
    → let one = with_policy s (change_by_all fresh_policy cs) in
    let two = with_policy s (build_all fresh_policy (still_held cs)) in
    (call_answers one later ≡ call_answers two later) × Like (call_all one later) (call_all two later)
