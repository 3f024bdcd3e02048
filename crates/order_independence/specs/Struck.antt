-- A call that is refused where it stands, struck from a run or added to it. Assumes nothing.
use Rattle.std.specs.Prelude.{◌≡◌, List, ◌∷◌, ◌++◌}
use Rattle.order_independence.specs.Calls.{State, HostCall, call, call_all, call_answers, IsRefused}

-- a run with a call among others, and the run without it: the same end, and the same answers to the others, first with first and so on
pub record Struck (s : State) (before : List HostCall) (c : HostCall) (after : List HostCall) : Type 0 where
  pub same_end : call_all s (before ++ (c ∷ after)) ≡ call_all s (before ++ after)
  pub answers_with : call_answers s (before ++ (c ∷ after))
      ≡ call_answers s before ++ ((call (call_all s before) c).answer ∷ call_answers (call_all s before) after)
  pub answers_without : call_answers s (before ++ after) ≡ call_answers s before ++ call_answers (call_all s before) after

-- the claim: a call that is refused where it stands changes no other answer and not the end, so it may be struck, or added
abbrev pub RefusedStruck : Type 0
RefusedStruck = (s : State) (before : List HostCall) (c : HostCall) (after : List HostCall) → IsRefused (call_all s before) c
    → Struck s before c after
