-- Laws on the bytes of a pair. Assumes nothing.
use Rattle.std.proofs.Common.{◌≡◌, ℕ, suc, ◌+◌, ◌-◌, ◌*◌, ◌/◌, ◌<◌, ◌≤◌, Bool, true, false, cond, eqb, arith}
use Rattle.fdt_nodes.specs.Nodes.{width, pair_bytes}

-- so many bytes are so many pairs of eight, twelve or sixteen
pub record Whole (bytes length : ℕ) : Type 0 where
  pub big : 8 ≤ bytes
  pub inside : length / bytes * bytes ≤ length
  pub one_more : bytes ≤ length → suc ((length - bytes) / bytes) ≡ length / bytes
  pub none : length < bytes → length / bytes ≡ 0

pub whole : (a z length : ℕ) → Whole (pair_bytes a z) length
unfolding pair_bytes width
whole a z n = go (eqb a 1) (eqb z 1)
  where
    go : (t u : Bool) → Whole (cond t 4 8 + cond u 4 8) n
    go true true = record { big = omega arith; inside = omega arith; one_more = λ h. omega arith; none = λ h. omega arith }
    go true false = record { big = omega arith; inside = omega arith; one_more = λ h. omega arith; none = λ h. omega arith }
    go false true = record { big = omega arith; inside = omega arith; one_more = λ h. omega arith; none = λ h. omega arith }
    go false false = record { big = omega arith; inside = omega arith; one_more = λ h. omega arith; none = λ h. omega arith }
