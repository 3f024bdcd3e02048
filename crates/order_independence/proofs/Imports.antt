-- The hypotheses of the claim can be met by a run with an import: the board's memory, imported in the one run and allowed call by call, in
-- another order, in the other. Assumes nothing.
use Prim.Native.Nat.{ℕ, ◌+◌}
use mathlib.Core.Path.{◌≡◌, refl, sym, ◌∙◌, ap, subst}
use mathlib.Core.List.Memᴰ
use mathlib.Core.List.{List, [], ◌∷◌, Permᴰ}
use native.Mathlib.Omega.{arith}
use Rattle.stage2.specs.Policy.{fresh_policy}
use Rattle.stage2.specs.Builds.{BuilderCall, allow}
use Rattle.stage2.proofs.Opened as stage2
use Rattle.memory_import.specs.Import.{allow_calls, pairs_in, import_calls, import_memory, import_by}
use Rattle.memory_import.specs.Changes.{PolicyCall, builder, import_devicetree, all_apart}
use Rattle.memory_import.proofs.Changes.{import_said}
use Rattle.fdt_tree.proofs.Dtc.{dtc, dtc_answer}
use Rattle.order_independence.specs.Builds.{accepted}
use Rattle.order_independence.specs.Calls.{fresh_state, after_changes}
use Rattle.order_independence.specs.OrderIndependence.{Reordered, Separate, Found}
use Rattle.order_independence.proofs.OrderIndependence.{order_independent}
use Rattle.std.specs.Prelude.{Ok}

abbrev key : ℕ → ℕ
key i = 100 + i

-- the import, and the calls that it stands for
abbrev calls : List PolicyCall
calls = import_devicetree dtc 0x7FD ∷ []

abbrev first : BuilderCall
first = allow 0x40000000 0x8000000 0x7FD

abbrev second : BuilderCall
second = allow 0x100000000 0x1000 0x7FD

abbrev third : BuilderCall
third = allow 0x60000000 0x2000 0x7FD

abbrev order : List PolicyCall
order = builder third ∷ builder first ∷ builder second ∷ []

pub board_calls : import_calls dtc 0x7FD ≡ first ∷ second ∷ third ∷ []
unfolding import_calls
board_calls = ap (λ said. allow_calls 0x7FD (pairs_in said)) dtc_answer

pub board_accepted : (import_memory fresh_policy dtc 0x7FD).answer ≡ Ok tt
unfolding stage2.opened
board_accepted = ap (λ b. b.answer) (import_said fresh_policy dtc 0x7FD ∙ ap (λ said. import_by said fresh_policy 0x7FD) dtc_answer)

board_apart : accepted fresh_policy calls ≡ first ∷ second ∷ third ∷ []
board_apart = rw (board_accepted, board_calls)

done : Reordered key fresh_state.policy calls order [] []
unfolding fresh_state
done = record {
  same_calls = subst (λ l. Permᴰ l (all_apart order)) (sym board_apart)
      (Permᴰ.trans (Permᴰ.cons refl (Permᴰ.swap refl refl)) (Permᴰ.swap refl refl));
  same_steps = Permᴰ.nil;
  own_order = λ i h. refl;
}

apart : Separate key (after_changes fresh_state calls) []
apart = record {
  one_loader = λ i j l m. absurd l;
  keys_differ = λ c d h k e. omega arith;
  all_named = λ c m. absurd (Memᴰ.not-nil m);
}

pub import_found : Found key fresh_state fresh_state calls order [] []
import_found = order_independent key calls order [] [] done apart
