-- The loop's invariant: the regions after the place that is freed, up to `place`, stand one place sooner (`closed`).
use Prim.Native.Nat.{◌+◌, ◌≤◌}
use mathlib.Core.Path.{◌≡◌}
use Rattle.lent_release.proofs.Removal.{closed}
use Rattle.lent_release.proofs.Laws.{regions}
use Rattle.lent_release.proofs.remove_region.Given as goal

abbrev pub invariant-loop-place : goal.invariant-loop-place
invariant-loop-place l = (l.at ≤ l.place) × (l.place ≤ l.last) × (l.last + 1 ≡ l.n) × (l.policy ≡ closed regions l.initial.policy l.at l.place)
