-- The loop's invariant: the regions from `place` up to `n` stand one place further (`shifted`).
use Prim.Native.Nat.{◌≤◌}
use mathlib.Core.Path.{◌≡◌}
use Rattle.lent_policy.specs.Layout.{region_at, with_region}
use Rattle.lent_policy.proofs.Insertion.{shifted}
use Rattle.lent_policy.proofs.place_at.Given as goal

abbrev pub invariant-loop-place : goal.invariant-loop-place
invariant-loop-place l = (l.at ≤ l.place) × (l.place ≤ l.n) × (l.policy ≡ shifted region_at with_region l.n l.initial.policy l.place)
