-- A call that is refused where it stands can be struck from a run, or added to it. Assumes nothing.
use mathlib.Core.Path.{◌≡◌, refl, sym, ◌∙◌, ap}
use mathlib.Core.List.{List, [], ◌∷◌, ◌++◌}
use Rattle.order_independence.specs.Calls.{State, HostCall, call, call_all, call_answers}
use Rattle.order_independence.specs.Struck.{RefusedStruck}
use Rattle.order_independence.proofs.Calls.{refusal_keeps}

-- the end of one list of calls after another
pub call-append : (a b : List HostCall) (s : State) → call_all s (a ++ b) ≡ call_all (call_all s a) b
call-append [] b s = refl
call-append (c ∷ cs) b s = call-append cs b (call s c).state

-- the answers of one list of calls after another
pub answers-append : (a b : List HostCall) (s : State) → call_answers s (a ++ b) ≡ call_answers s a ++ call_answers (call_all s a) b
answers-append [] b s = refl
answers-append (c ∷ cs) b s = ap (◌∷◌ (call s c).answer) (answers-append cs b (call s c).state)

-- A refused call leaves the state, so the calls after it begin where they would without it.
pub refused_struck : RefusedStruck
refused_struck s before c after h =
    let t : State = call_all s before in
    let kept = refusal_keeps t c h in
    record {
      same_end = call-append before (c ∷ after) s ∙ ap (λ u. call_all u after) kept ∙ sym (call-append before after s);
      answers_with = answers-append before (c ∷ after) s
          ∙ ap (λ u. call_answers s before ++ ((call t c).answer ∷ call_answers u after)) kept;
      answers_without = answers-append before after s;
    }
