-- The suspend map where each of eight cores uses one key. Assumes nothing.
use Rattle.std.specs.Prelude.{ℕ, ◌+◌, ◌≤◌, ◌<◌, ◌≡◌}
use Rattle.lists.specs.Counts.{count_of, sum_to}
use Rattle.simple_map.specs.declared.SimpleMap.{SimpleMap}
use Rattle.simple_map.specs.Map.{is_free, holds_key}

-- "each core has one key": those of the eight cores differ
abbrev pub KeysDiffer : (ℕ → ℕ) → Type 0
KeysDiffer key = (c d : ℕ) → c < 8 → d < 8 → key c ≡ key d → c ≡ d

-- every place is free or holds the key of one of the eight cores, and no two hold the same one
pub record HoldsKeys (key : ℕ → ℕ) (map : SimpleMap) : Type 0 where
  pub places : count_of is_free map.items + sum_to 8 (λ c. count_of (holds_key (key c)) map.items) ≡ 8
  pub once : (c : ℕ) → c < 8 → count_of (holds_key (key c)) map.items ≤ 1
